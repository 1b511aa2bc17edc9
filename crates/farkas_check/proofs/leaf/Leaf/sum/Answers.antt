use Rattle.std.proofs.Common.{rules, pos, get_or, arith}
use Rattle.std.specs.Int.{w128, cast_signed}
use Rattle.std.proofs.lemmas.Int.{ints, to_z-of_z}
use mir.Val.{SFits}
use Rattle.farkas_check.specs.Leaves.{leaf_rows}
use Rattle.farkas_check.specs.Columns.{part_at}
use Rattle.farkas_check.proofs.Summing.{summing-fits, summing-more}
use Rattle.farkas_check.proofs.leaf.Leaf.sum.Goals as goal

pub returns-in_err-sum : goal.returns-in_err-sum
returns-in_err-sum c =
    let fm : SFits w128 (get_or c.args.self.now.multipliers.now c.loop-row.row-index (0, pos 0)).1 = search rules in
    let fe : SFits w128 c.in_ok-entry.entry = search rules in
    let b = rw (to_z-of_z w128 _ fm, to_z-of_z w128 _ fe) at c.in_ok-product.ensures in
    let e = c.in_ok-entry.ensures.1 in
    rw c.from_residual-in_err-sum.ensures (λ f.
    let g = summing-fits (part_at c.args.column) (leaf_rows c.args.self.now) c.args.self.now.multipliers.now (cast_signed w128 c.loop-row.sum-bits) c.loop-row.row-index (0, pos 0) c.loop-row.invariant c.loop-row-test.true f in
    let h = rw (← e, ← b.1) at g.1 in
    c.in_err-sum.ensures (omega (arith, ints, b.0, h)))

pub loop-row-preserved : goal.loop-row-preserved
loop-row-preserved c =
    let fm : SFits w128 (get_or c.args.self.now.multipliers.now c.loop-row.row-index (0, pos 0)).1 = search rules in
    let fe : SFits w128 c.in_ok-entry.entry = search rules in
    let b = rw (to_z-of_z w128 _ fm, to_z-of_z w128 _ fe, c.in_ok-entry.ensures.1) at c.in_ok-product.ensures in
    let fp : SFits w128 c.in_ok-product.product = rw b.1 b.0 in
    let s = rw (to_z-of_z w128 _ fp, b.1) at c.in_ok-sum.ensures in
    let fs : SFits w128 c.in_ok-sum.sum = rw s.1 s.0 in
    rw (to_z-of_z w128 _ fs)
    (summing-more (part_at c.args.column) (leaf_rows c.args.self.now) c.args.self.now.multipliers.now (cast_signed w128 c.loop-row.sum-bits) _ c.loop-row.row-index (0, pos 0) c.loop-row.invariant c.loop-row-test.true b.0 s.0 s.1)
