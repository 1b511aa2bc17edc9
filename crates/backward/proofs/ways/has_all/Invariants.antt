use Rattle.std.proofs.Common.{◌≡◌, ℕ, ◌<◌, true}
use Rattle.backward.specs.Ways.{is_set}
use Rattle.backward.proofs.ways.has_all.Given as goal

-- the row has the marks before this one
abbrev pub invariant-loop-s : goal.invariant-loop-s
invariant-loop-s l = (s : ℕ) → s < l.s → is_set l.goals s ≡ true → is_set l.row s ≡ true
