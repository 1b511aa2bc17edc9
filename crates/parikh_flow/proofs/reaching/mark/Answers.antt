use Rattle.std.proofs.Common.{◌∙◌, false, Some, inl, inr, refl, ap}
use Rattle.std.proofs.lemmas.Option.{slice_get-get_or}
use Rattle.parikh_flow.proofs.reaching.mark.Goals as goal

pub bounds-as_slice-state : goal.bounds-as_slice-state
bounds-as_slice-state c = rw c.as_slice.ensures c.requires

pub returns-then-as_slice-state : goal.returns-then-as_slice-state
returns-then-as_slice-state c = inl (slice_get-get_or c.args.seen.now c.args.state false c.requires ∙ ap Some (rw c.as_slice.ensures at c.if-as_slice-state.true), refl, refl)

pub returns : goal.returns
returns c = inr (slice_get-get_or c.args.seen.now c.args.state false c.requires ∙ ap Some (rw c.as_slice.ensures at c.if-as_slice-state.false), c.in_ok-push.ensures.ok, c.set.ensures)
