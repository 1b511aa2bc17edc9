use Rattle.std.proofs.Common.{◌≡◌, take}
use Rattle.machine_core.specs.Costs.{add_costs}
use Rattle.machine_core.proofs.cost.Cost.add.Given as goal

abbrev pub invariant-loop-i : goal.invariant-loop-i
invariant-loop-i l = l.sum ≡ take l.i (add_costs l.self l.other)
