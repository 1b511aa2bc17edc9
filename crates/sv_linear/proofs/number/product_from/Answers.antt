use Rattle.std.proofs.Common.{arith}
use Rattle.std.specs.Int.{w128}
use Rattle.std.proofs.lemmas.Int.{ints, to_z-of_z}
use mir.Val.{SFits}
use Rattle.sv_linear.proofs.number.product_from.Goals as goal

pub returns-in_err-product : goal.returns-in_err-product
returns-in_err-product c =
    let e = rw (to_z-of_z w128 c.args.a c.ranges.a, to_z-of_z w128 c.args.b c.ranges.b) at c.in_err-product.ensures in
    rw c.from_residual.ensures (λ f. e f.1)

pub returns-then-product-least : goal.returns-then-product-least
returns-then-product-least c = λ f.
    let e = rw (to_z-of_z w128 c.args.a c.ranges.a, to_z-of_z w128 c.args.b c.ranges.b) at c.in_ok-product.ensures in
    let fp : SFits w128 c.in_ok-product.product = rw e.1 e.0 in
    let low = f.0 in
    let same = e.1 in
    omega (arith, ints)

pub returns-else-product-least : goal.returns-else-product-least
returns-else-product-least c =
    let e = rw (to_z-of_z w128 c.args.a c.ranges.a, to_z-of_z w128 c.args.b c.ranges.b) at c.in_ok-product.ensures in
    let fp : SFits w128 c.in_ok-product.product = rw e.1 e.0 in
    let same = e.1 in
    ((omega (arith, ints), e.0), omega (arith, ints))
