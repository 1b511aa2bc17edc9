use Rattle.std.proofs.Common.{arith}
use Rattle.std.specs.Int.{w128}
use Rattle.std.proofs.lemmas.Int.{ints, to_z-of_z}
use mir.Val.{SFits}
use Rattle.sv_linear.proofs.number.combine_numbers.Goals as goal

pub returns-in_err-left : goal.returns-in_err-left
returns-in_err-left c =
    let e = rw (to_z-of_z w128 c.args.p c.ranges.p, to_z-of_z w128 c.args.a c.ranges.a, to_z-of_z w128 c.args.least c.ranges.least) at c.in_err-left.ensures in
    rw c.from_residual.ensures (λ f. e f.0)

pub returns-in_err-right : goal.returns-in_err-right
returns-in_err-right c =
    let e = rw (to_z-of_z w128 c.args.q c.ranges.q, to_z-of_z w128 c.args.b c.ranges.b, to_z-of_z w128 c.args.least c.ranges.least) at c.in_err-right.ensures in
    rw c.from_residual-in_err-right.ensures (λ f. e f.1.0)

pub returns-in_err-sum : goal.returns-in_err-sum
returns-in_err-sum c =
    let l = rw (to_z-of_z w128 c.args.p c.ranges.p, to_z-of_z w128 c.args.a c.ranges.a, to_z-of_z w128 c.args.least c.ranges.least) at c.in_ok-left.ensures in
    let r = rw (to_z-of_z w128 c.args.q c.ranges.q, to_z-of_z w128 c.args.b c.ranges.b, to_z-of_z w128 c.args.least c.ranges.least) at c.in_ok-right.ensures in
    let fl : SFits w128 c.in_ok-left.left = rw l.1 l.0.1 in
    let fr : SFits w128 c.in_ok-right.right = rw r.1 r.0.1 in
    let e = rw (to_z-of_z w128 _ fl, to_z-of_z w128 _ fr, to_z-of_z w128 c.args.least c.ranges.least, l.1, r.1) at c.in_err-sum.ensures in
    rw c.from_residual-in_err-sum.ensures (λ f. e f.1.1)

pub returns : goal.returns
returns c =
    let l = rw (to_z-of_z w128 c.args.p c.ranges.p, to_z-of_z w128 c.args.a c.ranges.a, to_z-of_z w128 c.args.least c.ranges.least) at c.in_ok-left.ensures in
    let r = rw (to_z-of_z w128 c.args.q c.ranges.q, to_z-of_z w128 c.args.b c.ranges.b, to_z-of_z w128 c.args.least c.ranges.least) at c.in_ok-right.ensures in
    let fl : SFits w128 c.in_ok-left.left = rw l.1 l.0.1 in
    let fr : SFits w128 c.in_ok-right.right = rw r.1 r.0.1 in
    let e = rw (to_z-of_z w128 _ fl, to_z-of_z w128 _ fr, to_z-of_z w128 c.args.least c.ranges.least, l.1, r.1) at c.in_ok-sum.ensures in
    let fs : SFits w128 c.in_ok-sum.sum = rw e.1 e.0.1 in
    let same = e.1 in
    ((l.0, (r.0, e.0)), omega (arith, ints))
