use Rattle.std.proofs.Common.{◌≡◌}
use Rattle.machine_core.specs.Costs.{zeros}
use Rattle.machine_core.proofs.cost.Cost.zeros.Given as goal

abbrev pub invariant-loop-register : goal.invariant-loop-register
invariant-loop-register l = l.cost ≡ zeros l._register
