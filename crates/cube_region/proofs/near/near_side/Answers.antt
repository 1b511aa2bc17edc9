use Rattle.std.proofs.Common.{arith}
use Rattle.cube_region.proofs.Powers.{last-side, ones}
use Rattle.cube_region.proofs.near.near_side.Goals as goal

pub loop-side-init : goal.loop-side-init
loop-side-init c = ones c.args.count

pub returns-clause-greatest : goal.returns-clause-greatest
returns-clause-greatest c h =
    let a = c.loop-side-test.false in
    let b = c.loop-side.auto.side-end in
    last-side c.args.count c.loop-side.side (omega arith) h c.loop-side.invariant
