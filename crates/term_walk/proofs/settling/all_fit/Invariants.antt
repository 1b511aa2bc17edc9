use Rattle.std.proofs.Common.{◌≡◌, drop}
use Rattle.std.specs.List.{list_all}
use Rattle.term_draft.specs.Drafts.{at_places}
use Rattle.term_weight.specs.Sizes.{fits}
use Rattle.term_walk.proofs.settling.all_fit.Given as goal

abbrev pub invariant-loop-place : goal.invariant-loop-place
invariant-loop-place l = list_all fits (at_places l.draft (drop l.place-index l.places)) ≡ list_all fits (at_places l.draft l.places)
