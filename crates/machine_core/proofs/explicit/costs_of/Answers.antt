use Rattle.std.proofs.Common.{◌∙◌, ap, sym, length, map, arith}
use Rattle.std.proofs.lemmas.List.{take_all}
use Rattle.machine_core.specs.Places.{pick}
use Rattle.machine_core.specs.declared.end.End.{End}
use Rattle.machine_core.proofs.FoundLemmas.{picked-step, place-below}
use Rattle.machine_core.proofs.explicit.costs_of.Goals as goal

pub loop-place-preserved : goal.loop-place-preserved
loop-place-preserved c =
    picked-step (λ (e : End). e.cost) c.args.ends.now c.args.places.now c.loop-place.place-index c.index-ends-place.result c.loop-place.costs c.push.new.self
    c.in_ok-copy.field-0 c.requires c.loop-place-test.true c.index-ends-place.is c.loop-place.invariant c.in_ok-push.ensures.ok (c.in_ok-copy.ensures ∙ ap (λ (e : End). e.cost) (sym c.index-ends-place.is))

pub bounds-ends-place : goal.bounds-ends-place
bounds-ends-place c = place-below (length c.args.ends.now) c.args.places.now c.loop-place.place-index c.requires c.loop-place-test.true

pub returns : goal.returns
returns c = c.loop-place.invariant ∙ ap (λ l. map (λ (e : End). e.cost) (pick c.args.ends.now l)) (take_all c.loop-place.place-index c.args.places.now c.loop-place-test.false)

pub bounds-places-place-index : goal.bounds-places-place-index
bounds-places-place-index c = c.loop-place-test.true

pub offset_bounds-places-place-index : goal.offset_bounds-places-place-index
offset_bounds-places-place-index c = let test = c.loop-place-test.true in omega arith

pub offset_bounds-ends-place : goal.offset_bounds-ends-place
offset_bounds-ends-place c =
    let below = place-below (length c.args.ends.now) c.args.places.now c.loop-place.place-index c.requires c.loop-place-test.true in
    omega arith
