use Rattle.std.proofs.Common.{◌≡◌, map, take}
use Rattle.term_weight.specs.Bodies.{body_sort}
use Rattle.term_draft.specs.Drafts.{at_places}
use Rattle.term_draft.proofs.draft.TermDraft.sorts.Given as goal

abbrev pub invariant-loop-place : goal.invariant-loop-place
invariant-loop-place l = l.all ≡ map body_sort (at_places l.self (take l.place-index l.places))
