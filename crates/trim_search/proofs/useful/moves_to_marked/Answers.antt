use Rattle.std.proofs.Common.{take, false, get_or, refl, subst, arith}
use Rattle.std.proofs.lemmas.Option.{slice_get-get_or}
use Rattle.std.proofs.lemmas.List.{take_all, take_more}
use Rattle.sv_list.specs.Lists.{slice_get-contains, slice_get-read}
use Rattle.trim_search.specs.Useful.{AreKept}
use Rattle.trim_search.proofs.TrimLemmas.{kept-none, kept-push}
use Rattle.trim_search.proofs.useful.moves_to_marked.Goals as goal

pub bounds-marks-edge : goal.bounds-marks-edge
bounds-marks-edge c =
    let place = get_or c.args.places.now c.loop-place.place-index 0 in
    let edge = c.index-edges-place.result in
    c.requires.to edge (slice_get-contains c.args.edges.now place edge
    (slice_get-read c.args.edges.now c.args.edges.now place edge (c.requires.places c.loop-place.place-index place (slice_get-get_or c.args.places.now c.loop-place.place-index 0 c.loop-place-test.true)) refl c.index-edges-place.is))

pub loop-place-preserved : goal.loop-place-preserved
loop-place-preserved c =
    let edges = c.args.edges.now in
    let i = c.loop-place.place-index in
    let place = get_or c.args.places.now i 0 in
    let edge = c.index-edges-place.result in
    let at = slice_get-read edges edges place edge (c.requires.places i place (slice_get-get_or c.args.places.now i 0 c.loop-place-test.true)) refl c.index-edges-place.is in
    rw (take_more c.args.places.now i 0 c.loop-place-test.true)
    (kept-push edges (take i c.args.places.now) c.args.marks.now c.loop-place.kept c.keep_if.new.kept place edge c.loop-place.invariant at (get_or c.args.marks.now edge.to false)
    (slice_get-get_or c.args.marks.now edge.to false (c.requires.to edge (slice_get-contains edges place edge at))) c.in_ok-keep_if.ensures.kept c.in_ok-keep_if.ensures.left)

pub returns : goal.returns
returns c = subst (λ l. AreKept c.args.edges.now l c.args.marks.now c.loop-place.kept) (take_all c.loop-place.place-index c.args.places.now c.loop-place-test.false) c.loop-place.invariant

pub loop-place-init : goal.loop-place-init
loop-place-init c = rw (c.from_vec-kept.ensures, c.in_ok-room.ensures.items) (kept-none c.args.edges.now c.args.marks.now)

pub bounds-places-place-index : goal.bounds-places-place-index
bounds-places-place-index c = c.loop-place-test.true

pub offset_bounds-places-place-index : goal.offset_bounds-places-place-index
offset_bounds-places-place-index c = let test = c.loop-place-test.true in omega arith

pub bounds-edges-place : goal.bounds-edges-place
bounds-edges-place c =
    let place = get_or c.args.places.now c.loop-place.place-index 0 in
    c.requires.places c.loop-place.place-index place (slice_get-get_or c.args.places.now c.loop-place.place-index 0 c.loop-place-test.true)

pub offset_bounds-edges-place : goal.offset_bounds-edges-place
offset_bounds-edges-place c =
    let place = get_or c.args.places.now c.loop-place.place-index 0 in
    let below = c.requires.places c.loop-place.place-index place (slice_get-get_or c.args.places.now c.loop-place.place-index 0 c.loop-place-test.true) in
    omega arith
