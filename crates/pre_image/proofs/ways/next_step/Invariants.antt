use Rattle.std.proofs.Common.{◌↔◌, take, Any}
use Rattle.pre_image.specs.Lifts.{Works}
use Rattle.pre_image.proofs.ways.next_step.Given as goal

abbrev pub invariant-loop-step : goal.invariant-loop-step
invariant-loop-step l = ⊥ ↔ Any (Works l.target l.c l.rest l.to l.cost) (take l.step-index l.step-items)
