use Rattle.cube_draft.proofs.Inserted.{IsSearched}
use Rattle.cube_draft.proofs.comparison.place_in.Given as goal

abbrev pub invariant-loop-at : goal.invariant-loop-at
invariant-loop-at l = IsSearched l.terms l.unknown l.at

abbrev pub decreases-loop-at : goal.decreases-loop-at
decreases-loop-at l = l.at
