use Rattle.total_marks.proofs.MarkLemmas.{AreHeld}
use Rattle.total_marks.proofs.covering.covers.Given as goal

abbrev pub invariant-loop-at : goal.invariant-loop-at
invariant-loop-at l = AreHeld l.from l.to l.skip l.by l.at
