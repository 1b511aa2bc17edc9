use Rattle.straight_line.proofs.Traced.{IsTraced, unseen}
use Rattle.straight_line.proofs.cycling.cycle.Given as goal

abbrev pub invariant-loop-at : goal.invariant-loop-at
invariant-loop-at l = IsTraced l.definitions l.ahead l.path l.seen l.at

abbrev pub decreases-loop-at : goal.decreases-loop-at
decreases-loop-at l = unseen l.seen
