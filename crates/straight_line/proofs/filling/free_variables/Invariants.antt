use Rattle.std.proofs.Common.{◌≡◌, replicate}
use Rattle.straight_line.specs.Filling.{free_variable}
use Rattle.straight_line.proofs.filling.free_variables.Given as goal

abbrev pub invariant-loop-variable : goal.invariant-loop-variable
invariant-loop-variable l = l.variables.items ≡ replicate l._variable free_variable
