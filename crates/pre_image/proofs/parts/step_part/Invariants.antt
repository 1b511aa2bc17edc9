use Rattle.std.proofs.Common.{◌↔◌, take, Any}
use Rattle.pre_image.specs.Leading.{Passes}
use Rattle.pre_image.proofs.parts.step_part.Given as goal

abbrev pub invariant-loop-edge : goal.invariant-loop-edge
invariant-loop-edge l = ⊥ ↔ Any (Passes l.pre.target.now l.from l.c l.cost l.to) (take l.edge-index l.edge-items)
