use Rattle.std.proofs.Common.{rules, pos, get_or, arith}
use Rattle.std.specs.Int.{w128, cast_signed}
use Rattle.std.proofs.lemmas.Int.{to_z-of_z}
use mir.Val.{SFits}
use Rattle.farkas_check.specs.Cuts.{values_of}
use Rattle.lia_reduce.proofs.FormValues.{value-none, value-more, value-done}
use Rattle.lia_reduce.proofs.filling.value_of.Goals as goal

pub loop-unknown-init : goal.loop-unknown-init
loop-unknown-init c =
    let fc : SFits w128 c.args.form.now.constant = search rules in
    rw (to_z-of_z w128 _ fc) (value-none (values_of c.args.point.now) c.args.form.now.coefficients c.args.form.now.constant)

pub loop-unknown-preserved : goal.loop-unknown-preserved
loop-unknown-preserved c =
    let items = c.as_slice-unknown-items.result.now in
    let i = c.loop-unknown.unknown-index in
    let fm : SFits w128 (get_or items i (0, pos 0)).1 = search rules in
    let fe : SFits w128 c.value_at.result = search rules in
    let b = rw (to_z-of_z w128 _ fm, to_z-of_z w128 _ fe, c.value_at.ensures) at c.in_ok-product.ensures in
    let fp : SFits w128 c.in_ok-product.product = rw b.1 b.0 in
    let s = rw (to_z-of_z w128 _ fp, b.1) at c.in_ok-sum.ensures in
    let fs : SFits w128 c.in_ok-sum.sum = rw s.1 s.0 in
    rw (to_z-of_z w128 _ fs)
    (value-more (values_of c.args.point.now) c.args.form.now.coefficients items i c.args.form.now.constant (cast_signed w128 c.loop-unknown.sum-bits) _ c.as_slice-unknown-items.ensures c.loop-unknown-test.true c.loop-unknown.invariant s.1)

pub returns : goal.returns
returns c = value-done (values_of c.args.point.now) c.args.form.now c.as_slice-unknown-items.result.now c.loop-unknown.unknown-index _ c.as_slice-unknown-items.ensures (omega (arith, c.loop-unknown-test.false)) c.loop-unknown.invariant
