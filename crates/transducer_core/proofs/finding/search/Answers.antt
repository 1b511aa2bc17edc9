use Rattle.std.proofs.Common.{subst, sym, take, arith}
use Rattle.transducer_core.specs.Layers.{AreSearchLayers}
use Rattle.transducer_core.proofs.LayerLemmas.{searched_within, searched_done, searched_more, taken_length, take_next}
use Rattle.transducer_core.proofs.finding.search.Goals as goal

pub layer_at-requires : goal.layer_at-requires
layer_at-requires c =
    rw c.as_slice-in-loop-at.ensures (searched_within c.args.transducer.now (take c.loop-at.at c.args.read.now) c.args.written.now c.loop-at.layers c.loop-at.at c.loop-at.invariant
    (taken_length c.args.read.now c.loop-at.at (omega (arith, c.loop-at-test.true, c.len-at-end.ensures))))

pub next_layer-requires : goal.next_layer-requires
next_layer-requires c =
    searched_done c.args.transducer.now (take c.loop-at.at c.args.read.now) c.args.written.now c.loop-at.layers c.loop-at.at c.layer_at.result.now c.loop-at.invariant
    (taken_length c.args.read.now c.loop-at.at (omega (arith, c.loop-at-test.true, c.len-at-end.ensures)))
    (rw c.as_slice-in-loop-at.ensures at c.layer_at.ensures)

pub loop-at-preserved : goal.loop-at-preserved
loop-at-preserved c =
    subst (λ v. AreSearchLayers c.args.transducer.now v c.args.written.now c.push.new.self) (sym (take_next c.args.read.now c.loop-at.at c.character_at-c.result (rw c.as_slice.ensures at c.character_at-c.ensures)))
    (searched_more c.args.transducer.now (take c.loop-at.at c.args.read.now) c.args.written.now c.loop-at.layers c.push.new.self c.loop-at.at c.character_at-c.result c.layer_at.result.now _ c.loop-at.invariant
    (taken_length c.args.read.now c.loop-at.at (omega (arith, c.loop-at-test.true, c.len-at-end.ensures)))
    (rw c.as_slice-in-loop-at.ensures at c.layer_at.ensures)
    c.in_ok-next.ensures c.in_ok-push.ensures.ok)
