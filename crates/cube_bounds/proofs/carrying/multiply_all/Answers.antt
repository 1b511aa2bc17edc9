use Rattle.std.proofs.Common.{arith}
use Rattle.cube_bounds.proofs.Multiplied.{times_before}
use Rattle.cube_bounds.proofs.carrying.multiply_all.Goals as goal

pub loop-i-preserved : goal.loop-i-preserved
loop-i-preserved c k ms b e a =
    times_before c.loop-i.numbers c.multiply.new.numbers ms c.args.places.now k c.args.by c.loop-i.i (omega arith) (omega arith) b a (c.loop-i.invariant k ms b e a) c.multiply.ensures
