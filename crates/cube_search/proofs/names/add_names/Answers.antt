use Rattle.cube_search.proofs.NameLemmas.{joined-begun, joined-next, joined-same, joined-all}
use Rattle.cube_search.proofs.names.add_names.Goals as goal

pub loop-v-init : goal.loop-v-init
loop-v-init c = joined-begun c.args.names.now c.args.others.now

pub loop-v-preserved : goal.loop-v-preserved
loop-v-preserved c = joined-next c.args.names.now c.args.others.now c.loop-v.names c.add_name.new.names c.loop-v.v c.if-not-others-v.false c.loop-v.invariant c.in_ok-add_name.ensures

pub loop-v-preserved-then-not-others-v : goal.loop-v-preserved-then-not-others-v
loop-v-preserved-then-not-others-v c = joined-same c.args.names.now c.args.others.now c.loop-v.names c.loop-v.v c.if-not-others-v.true c.loop-v.invariant

pub returns : goal.returns
returns c = joined-all c.args.names.now c.args.others.now c.loop-v.names c.loop-v.v c.loop-v-test.false c.loop-v.invariant
