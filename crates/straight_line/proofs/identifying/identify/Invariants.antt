use Rattle.straight_line.proofs.Leads.{IsJoined}
use Rattle.straight_line.proofs.identifying.identify.Given as goal

abbrev pub invariant-loop-one : goal.invariant-loop-one
invariant-loop-one l = IsJoined l.fn.above l.equalities l.one-index l.above
