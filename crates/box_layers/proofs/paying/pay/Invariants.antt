use Rattle.std.proofs.Common.{◌≡◌, take, map}
use Rattle.machine_core.specs.Costs.{add_costs}
use Rattle.box_layers.specs.Layers.{AreWithinGreatest}
use Rattle.box_layers.proofs.paying.pay.Given as goal

abbrev pub invariant-loop-register : goal.invariant-loop-register
invariant-loop-register l = record {
  sum : l.sum ≡ add_costs (take l.register l.spent) (take l.register l.cost);
  below : AreWithinGreatest l.sum (map (λ s. s.1) (take l.register l.sides));
}
