use Rattle.std.proofs.Common.{◌≡◌, map, take}
use Rattle.term_draft.specs.Drafts.{at_places}
use Rattle.term_weight.specs.Weights.{weight_of}
use Rattle.term_draft.proofs.draft.TermDraft.weights.Given as goal

abbrev pub invariant-loop-place : goal.invariant-loop-place
invariant-loop-place l = l.all ≡ map weight_of (at_places l.self (take l.place-index l.places))
