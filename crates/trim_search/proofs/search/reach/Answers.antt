use Rattle.std.proofs.Common.{true, false, get_or, refl, inl, inr, add-one, arith}
use Rattle.std.proofs.lemmas.Option.{slice_get-get_or}
use Rattle.trim_search.proofs.RestLemmas.{read-mark}
use Rattle.trim_search.proofs.SearchLemmas.{reaches-read}
use Rattle.trim_search.proofs.search.reach.Goals as goal

pub bounds-edges-place : goal.bounds-edges-place
bounds-edges-place c = c.requires.place

pub offset_bounds-edges-place : goal.offset_bounds-edges-place
offset_bounds-edges-place c = let place = c.requires.place in omega arith

pub bounds-as_slice-to : goal.bounds-as_slice-to
bounds-as_slice-to c =
    let edge = get_or c.args.edges.now c.args.place c.index-edges-place.result in
    rw c.as_slice.ensures (c.requires.to edge (slice_get-get_or c.args.edges.now c.args.place c.index-edges-place.result c.requires.place))

pub returns-then-as_slice-to : goal.returns-then-as_slice-to
returns-then-as_slice-to c =
    let edge = get_or c.args.edges.now c.args.place c.index-edges-place.result in
    let to = c.requires.to edge (slice_get-get_or c.args.edges.now c.args.place c.index-edges-place.result c.requires.place) in
    reaches-read c.args.edges.now c.args.place c.index-edges-place.result c.args.at c.args.depth c.args.entries.now c.args.entries.now c.args.seen.now c.args.seen.now
    (inl (read-mark c.args.seen.now c.as_slice.result.now edge.to true c.as_slice.ensures to c.if-as_slice-to.true, refl, refl))

pub returns : goal.returns
returns c =
    let edge = get_or c.args.edges.now c.args.place c.index-edges-place.result in
    let to = c.requires.to edge (slice_get-get_or c.args.edges.now c.args.place c.index-edges-place.result c.requires.place) in
    reaches-read c.args.edges.now c.args.place c.index-edges-place.result c.args.at c.args.depth c.args.entries.now c.push.new.self c.args.seen.now c.set.new.self
    (inr (read-mark c.args.seen.now c.as_slice.result.now edge.to false c.as_slice.ensures to c.if-as_slice-to.false, rw add-one at c.in_ok-push.ensures.ok, c.set.ensures))
