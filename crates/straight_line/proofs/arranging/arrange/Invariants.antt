use Rattle.straight_line.proofs.Arranged.{IsArranged}
use Rattle.straight_line.proofs.arranging.arrange.Given as goal

abbrev pub invariant-loop-place : goal.invariant-loop-place
invariant-loop-place l = IsArranged l.fn.definitions l.places l.place-index l.slots.items l.arranged
