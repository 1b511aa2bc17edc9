use Rattle.std.proofs.Common.{◌≡◌, ℕ, ◌↔◌, List, Any, subst, arith}
use Rattle.std.proofs.lemmas.List.{take_all}
use Rattle.machine_core.specs.Places.{pick}
use Rattle.pre_image.specs.Leading.{EndsInPair}
use Rattle.pre_image.proofs.RowLemmas.{row-none, row-place, row-listed, row-step}
use Rattle.pre_image.proofs.pre.costs_of.Goals as goal

pub loop-place-preserved : goal.loop-place-preserved
loop-place-preserved c cost =
    row-step (EndsInPair c.args.target.now c.args.at.now cost) c.args.ends.now c.args.places.now c.loop-place.place-index c.index-ends-place.result
    c.requires.within c.loop-place-test.true c.index-ends-place.is _ _ (c.loop-place.invariant cost) (c.in_ok-add_end.ensures cost)

pub returns : goal.returns
returns c cost =
    subst (λ (l : List ℕ). Any (λ e. e ≡ cost) c.loop-place.all ↔ Any (EndsInPair c.args.target.now c.args.at.now cost) (pick c.args.ends.now l))
    (take_all c.loop-place.place-index c.args.places.now c.loop-place-test.false) (c.loop-place.invariant cost)

pub loop-place-init : goal.loop-place-init
loop-place-init c cost = row-none (EndsInPair c.args.target.now c.args.at.now cost) (λ e. e ≡ cost) c.new-all.result c.new-all.ensures

pub offset_bounds-ends-place : goal.offset_bounds-ends-place
offset_bounds-ends-place c = let lt = row-place c.args.ends.now c.args.places.now c.loop-place.place-index c.requires.within c.loop-place-test.true in omega arith

pub bounds-ends-place : goal.bounds-ends-place
bounds-ends-place c = row-place c.args.ends.now c.args.places.now c.loop-place.place-index c.requires.within c.loop-place-test.true

pub add_end-requires-clause-at : goal.add_end-requires-clause-at
add_end-requires-clause-at c = c.requires.at

pub add_end-requires-clause-fits : goal.add_end-requires-clause-fits
add_end-requires-clause-fits c =
    c.requires.fits c.index-ends-place.result
    (row-listed c.args.ends.now c.args.places.now c.loop-place.place-index c.index-ends-place.result c.requires.within c.loop-place-test.true c.index-ends-place.is)
