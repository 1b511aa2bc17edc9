use Rattle.transducer_core.proofs.LayerLemmas.{part_begun, part_over, part_all}
use Rattle.transducer_core.proofs.layers.next_layer.Goals as goal

pub loop-before-init : goal.loop-before-init
loop-before-init c = part_begun c.args.transducer.now c.args.written.now c.args.c c.args.layer.now c.new-next.result c.new-next.ensures

pub add_from-requires-clause-done : goal.add_from-requires-clause-done
add_from-requires-clause-done c = c.requires

pub add_from-requires-clause-part : goal.add_from-requires-clause-part
add_from-requires-clause-part c = c.loop-before.invariant

pub loop-before-preserved : goal.loop-before-preserved
loop-before-preserved c = part_over c.args.transducer.now c.args.written.now c.args.c c.args.layer.now c.loop-before.before c.add_from.new.next c.in_ok-add_from.ensures

pub returns : goal.returns
returns c = part_all c.args.transducer.now c.args.written.now c.args.c c.args.layer.now c.loop-before.before c.loop-before.next c.loop-before.auto.before-end c.loop-before-test.false c.loop-before.invariant
