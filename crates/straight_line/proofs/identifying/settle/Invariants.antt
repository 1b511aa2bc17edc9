use Rattle.straight_line.proofs.Leads.{IsSettled}
use Rattle.straight_line.proofs.identifying.settle.Given as goal

abbrev pub invariant-loop-i : goal.invariant-loop-i
invariant-loop-i l = IsSettled l.fn.above l.above l.i
