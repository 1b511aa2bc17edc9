use Rattle.std.proofs.Common.{length}
use Rattle.transducer_core.proofs.LayerLemmas.{part_next, part_end, below_same}
use Rattle.transducer_core.proofs.layers.add_from.Goals as goal

pub loop-place-init : goal.loop-place-init
loop-place-init c = c.requires.part

pub add_by-requires-clause-place : goal.add_by-requires-clause-place
add_by-requires-clause-place c = below_same c.loop-place.place c.len-place-end.result (length c.args.transducer.now.edges) c.loop-place-test.true c.len-place-end.ensures

pub add_by-requires-clause-done : goal.add_by-requires-clause-done
add_by-requires-clause-done c = c.requires.done

pub add_by-requires-clause-part : goal.add_by-requires-clause-part
add_by-requires-clause-part c = c.loop-place.invariant

pub loop-place-preserved : goal.loop-place-preserved
loop-place-preserved c = part_next c.args.transducer.now c.args.written.now c.args.c c.args.layer.now c.args.before c.loop-place.place c.add_by.new.next c.in_ok-add_by.ensures

pub returns : goal.returns
returns c = part_end c.args.transducer.now c.args.written.now c.args.c c.args.layer.now c.args.before c.loop-place.place c.len-place-end.result c.loop-place.next c.requires.before c.len-place-end.ensures c.loop-place.auto.place-end c.loop-place-test.false c.loop-place.invariant
