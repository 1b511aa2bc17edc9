use Rattle.straight_line.proofs.Traced.{IsPlacedTo}
use Rattle.straight_line.proofs.cycling.places.Given as goal

abbrev pub invariant-loop-i : goal.invariant-loop-i
invariant-loop-i l = IsPlacedTo l.definitions l.variables l.i l.places
