use Rattle.std.proofs.Common.{sym, ◌∙◌, get_or, arith}
use Rattle.term_walk.proofs.Walking.{fit-more, fit-not, fit-end, at-default}
use Rattle.term_walk.proofs.settling.all_fit.Goals as goal

pub returns-then-not-fits : goal.returns-then-not-fits
returns-then-not-fits c = fit-not c.args.draft.now c.args.places.now c.loop-place.place-index (get_or c.args.places.now c.loop-place.place-index 0) _ c.loop-place-test.true (at-default c.args.places.now c.loop-place.place-index) (sym c.fits.ensures ∙ c.if-not-fits.true) c.loop-place.invariant

pub loop-place-preserved : goal.loop-place-preserved
loop-place-preserved c = fit-more c.args.draft.now c.args.places.now c.loop-place.place-index (get_or c.args.places.now c.loop-place.place-index 0) _ c.loop-place-test.true (at-default c.args.places.now c.loop-place.place-index) (sym c.fits.ensures ∙ c.if-not-fits.false) c.loop-place.invariant

pub returns : goal.returns
returns c = fit-end c.args.draft.now c.args.places.now c.loop-place.place-index _ (omega arith) c.loop-place.invariant
