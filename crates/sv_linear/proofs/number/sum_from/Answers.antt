use Rattle.std.proofs.Common.{arith}
use Rattle.std.specs.Int.{w128}
use Rattle.std.proofs.lemmas.Int.{ints, to_z-of_z}
use mir.Val.{SFits}
use Rattle.sv_linear.proofs.number.sum_from.Goals as goal

pub returns-in_err-sum : goal.returns-in_err-sum
returns-in_err-sum c =
    let e = rw (to_z-of_z w128 c.args.a c.ranges.a, to_z-of_z w128 c.args.b c.ranges.b) at c.in_err-sum.ensures in
    rw c.from_residual.ensures (λ f. e f.1)

pub returns-then-sum-least : goal.returns-then-sum-least
returns-then-sum-least c = λ f.
    let e = rw (to_z-of_z w128 c.args.a c.ranges.a, to_z-of_z w128 c.args.b c.ranges.b) at c.in_ok-sum.ensures in
    let fp : SFits w128 c.in_ok-sum.sum = rw e.1 e.0 in
    let low = f.0 in
    let same = e.1 in
    omega (arith, ints)

pub returns-else-sum-least : goal.returns-else-sum-least
returns-else-sum-least c =
    let e = rw (to_z-of_z w128 c.args.a c.ranges.a, to_z-of_z w128 c.args.b c.ranges.b) at c.in_ok-sum.ensures in
    let fp : SFits w128 c.in_ok-sum.sum = rw e.1 e.0 in
    let same = e.1 in
    ((omega (arith, ints), e.0), omega (arith, ints))
