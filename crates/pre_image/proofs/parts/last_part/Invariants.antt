use Rattle.std.proofs.Common.{◌↔◌, take, Any}
use Rattle.pre_image.specs.Leading.{EndsInPair}
use Rattle.pre_image.proofs.parts.last_part.Given as goal

abbrev pub invariant-loop-end : goal.invariant-loop-end
invariant-loop-end l = ⊥ ↔ Any (EndsInPair l.pre.target.now l.at l.cost) (take l.end-index l.end-items)
