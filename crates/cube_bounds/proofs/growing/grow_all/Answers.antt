use Rattle.std.proofs.Common.{arith}
use Rattle.cube_bounds.proofs.Grown.{grown_more}
use Rattle.cube_bounds.proofs.growing.grow_all.Goals as goal

pub loop-definition-preserved : goal.loop-definition-preserved
loop-definition-preserved c ms e =
    grown_more c.args.definitions.now c.definition-item.result c.loop-definition.definition-index c.loop-definition.numbers c.grow.new.numbers ms (omega arith) c.definition-item.is (c.loop-definition.invariant ms e) c.grow.ensures
