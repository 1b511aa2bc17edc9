use Rattle.std.proofs.Common.{◌≡◌, ℕ, take}
use Rattle.pre_image.specs.Spelling.{spelling}
use Rattle.pre_image.specs.Leading.{spelled}
use Rattle.pre_image.proofs.leading.spell.Given as goal

abbrev pub invariant-loop-item : goal.invariant-loop-item
invariant-loop-item l = (c : ℕ) → spelled l.nexts c ≡ spelling c (take l.item-index l.items)
