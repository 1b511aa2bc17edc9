use Rattle.std.proofs.Common.{◌≡◌, [], replicate}
use Rattle.straight_line.proofs.ordering.rows.Given as goal

abbrev pub invariant-loop-variable : goal.invariant-loop-variable
invariant-loop-variable l = l.rows.items ≡ replicate l._variable []
