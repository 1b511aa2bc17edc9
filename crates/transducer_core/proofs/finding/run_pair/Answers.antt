use Rattle.std.proofs.Common.{length, sym}
use Rattle.transducer_core.proofs.LayerLemmas.{fits_places, searched_within, searched_done, searched_total, walking_first}
use Rattle.transducer_core.proofs.finding.run_pair.Goals as goal

pub layer_at-last-requires : goal.layer_at-last-requires
layer_at-last-requires c = rw c.as_slice.ensures (searched_within c.args.transducer.now c.args.read.now c.args.written.now c.in_ok-layers.layers c.len-2.result c.in_ok-layers.ensures c.len-2.ensures)

pub place_of_end-requires : goal.place_of_end-requires
place_of_end-requires c =
    rw c.as_slice-2.ensures (searched_done c.args.transducer.now c.args.read.now c.args.written.now c.in_ok-layers.layers c.len-2.result c.layer_at-last.result.now c.in_ok-layers.ensures c.len-2.ensures
    (rw c.as_slice.ensures at c.layer_at-last.ensures))

pub returns-in-None : goal.returns-in-None
returns-in-None c =
    searched_total c.args.transducer.now c.args.read.now c.args.written.now c.in_ok-layers.layers c.len-2.result c.layer_at-last.result.now c.in_ok-layers.ensures c.len-2.ensures
    (rw c.as_slice.ensures at c.layer_at-last.ensures) (rw c.as_slice-2.ensures at c.in-None.ensures)

pub places_back-requires-clause-searched : goal.places_back-requires-clause-searched
places_back-requires-clause-searched c = rw c.as_slice-in-Some.ensures c.in_ok-layers.ensures

pub places_back-requires-clause-ended : goal.places_back-requires-clause-ended
places_back-requires-clause-ended c =
    let found = c.in-Some.ensures in
    rw (c.as_slice-in-Some.ensures, sym c.len-2.ensures)
    (walking_first c.args.transducer.now c.args.written.now c.args.read.now c.in_ok-layers.layers c.len-2.result c.in-Some.at c.layer_at-last.result.now found.0 c.len-2.ensures
    (rw c.as_slice.ensures at c.layer_at-last.ensures) found.1 (rw c.as_slice-2.ensures at found.2))

pub places_back-requires-clause-small : goal.places_back-requires-clause-small
places_back-requires-clause-small c = fits_places c.len.result (length c.args.transducer.now.edges) c.len.ensures c.if-len.false
