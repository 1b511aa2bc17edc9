use Rattle.std.proofs.Common.{◌∙◌, ap, refl, length, map, arith}
use Rattle.std.proofs.lemmas.List.{take_all}
use Rattle.machine_core.specs.Places.{pick}
use Rattle.machine_core.specs.Edges.{move_of}
use Rattle.machine_core.proofs.FoundLemmas.{picked-step, place-below}
use Rattle.machine_core.proofs.explicit.moves_of.Goals as goal

pub loop-place-preserved : goal.loop-place-preserved
loop-place-preserved c =
    picked-step move_of c.args.edges.now c.args.places.now c.loop-place.place-index c.index-edges-place.result c.loop-place.moves c.push.new.self
    (record { on = c.in_ok-copy.field-0; cost = c.in_ok-copy-2.field-0; to = c.index-edges-place.result.to })
    c.requires c.loop-place-test.true c.index-edges-place.is c.loop-place.invariant c.in_ok-push.ensures.ok (rw (c.in_ok-copy.ensures, c.in_ok-copy-2.ensures) refl)

pub bounds-edges-place : goal.bounds-edges-place
bounds-edges-place c = place-below (length c.args.edges.now) c.args.places.now c.loop-place.place-index c.requires c.loop-place-test.true

pub returns : goal.returns
returns c = c.loop-place.invariant ∙ ap (λ l. map move_of (pick c.args.edges.now l)) (take_all c.loop-place.place-index c.args.places.now c.loop-place-test.false)

pub bounds-places-place-index : goal.bounds-places-place-index
bounds-places-place-index c = c.loop-place-test.true

pub offset_bounds-places-place-index : goal.offset_bounds-places-place-index
offset_bounds-places-place-index c = let test = c.loop-place-test.true in omega arith

pub offset_bounds-edges-place : goal.offset_bounds-edges-place
offset_bounds-edges-place c =
    let below = place-below (length c.args.edges.now) c.args.places.now c.loop-place.place-index c.requires c.loop-place-test.true in
    omega arith
