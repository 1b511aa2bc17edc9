use Rattle.std.proofs.Common.{map}
use Rattle.box_layers.proofs.MoveLemmas.{steps-next}
use Rattle.box_layers.proofs.moving.steps.Goals as goal

pub loop-step-preserved : goal.loop-step-preserved
loop-step-preserved c = steps-next (map (λ s. s.1) c.args.sides.now) c.args.at.now c.args.moves.now c.loop-step.step-index c.step-item.result c.loop-step.all c.push_step.new.all c.loop-step-test.true c.step-item.is c.loop-step.invariant c.in_ok-push_step.ensures
