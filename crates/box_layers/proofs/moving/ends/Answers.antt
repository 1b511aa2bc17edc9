use Rattle.std.proofs.Common.{map}
use Rattle.box_layers.proofs.MoveLemmas.{ends-next}
use Rattle.box_layers.proofs.moving.ends.Goals as goal

pub loop-cost-preserved : goal.loop-cost-preserved
loop-cost-preserved c = ends-next (map (λ s. s.1) c.args.sides.now) c.args.at.now c.args.on.now c.args.costs.now c.loop-cost.cost-index c.cost-item.result c.loop-cost.all c.push_end.new.all c.loop-cost-test.true c.cost-item.is c.loop-cost.invariant c.in_ok-push_end.ensures
