use Rattle.std.proofs.Common.{arith}
use Rattle.cube_bounds.proofs.Multiplied.{carried_before}
use Rattle.cube_bounds.proofs.carrying.carry_all.Goals as goal

pub loop-i-preserved : goal.loop-i-preserved
loop-i-preserved c ms e a =
    carried_before c.args.definitions.now c.index-definitions-i.result c.loop-i.numbers c.carry.new.numbers ms c.loop-i.i (omega arith) (omega arith) c.index-definitions-i.is a (c.loop-i.invariant ms e a) c.carry.ensures
