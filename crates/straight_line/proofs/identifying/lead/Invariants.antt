use Rattle.straight_line.proofs.Leads.{IsLed}
use Rattle.straight_line.proofs.identifying.lead.Given as goal

abbrev pub invariant-loop-above : goal.invariant-loop-above
invariant-loop-above l = IsLed l.fn.above l.above l.place l.at

abbrev pub decreases-loop-above : goal.decreases-loop-above
decreases-loop-above l = l.at
