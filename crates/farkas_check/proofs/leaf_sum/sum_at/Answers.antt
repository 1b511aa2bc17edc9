use Rattle.std.proofs.Common.{rules, pos, get_or, map, ◌<◌, subst, arith}
use Rattle.std.specs.Int.{w128, cast_signed}
use Rattle.std.proofs.lemmas.Int.{ints, to_z-of_z}
use mir.Val.{SFits}
use Rattle.farkas_check.specs.Systems.{constraint_of}
use Rattle.farkas_check.specs.Columns.{part_at}
use Rattle.farkas_check.proofs.LeafSums.{rows_size}
use Rattle.farkas_check.proofs.Summing.{summing-none, summing-row, summing-fits, summing-more}
use Rattle.farkas_check.proofs.leaf_sum.sum_at.Goals as goal

pub loop-row-init : goal.loop-row-init
loop-row-init c = summing-none (part_at c.args.column) (map constraint_of c.args.rows.now) c.args.multipliers.now c.requires

pub entry_at-entry-requires : goal.entry_at-entry-requires
entry_at-entry-requires c =
    subst (λ n. (get_or c.args.multipliers.now c.loop-row.row-index (0, pos 0)).0 < n) (rows_size c.args.rows.now)
    (summing-row (part_at c.args.column) (map constraint_of c.args.rows.now) c.args.multipliers.now (cast_signed w128 c.loop-row.sum-bits) c.loop-row.row-index (0, pos 0) c.loop-row.invariant c.loop-row-test.true)

pub returns-in_err-product : goal.returns-in_err-product
returns-in_err-product c =
    let fm : SFits w128 (get_or c.args.multipliers.now c.loop-row.row-index (0, pos 0)).1 = search rules in
    let fe : SFits w128 c.entry_at-entry.result = search rules in
    let b = rw (to_z-of_z w128 _ fm, to_z-of_z w128 _ fe) at c.in_err-product.ensures in
    let e = c.entry_at-entry.ensures in
    rw c.from_residual.ensures (λ f.
    let g = summing-fits (part_at c.args.column) (map constraint_of c.args.rows.now) c.args.multipliers.now (cast_signed w128 c.loop-row.sum-bits) c.loop-row.row-index (0, pos 0) c.loop-row.invariant c.loop-row-test.true f in
    let h = rw (← e) at g.0 in
    b h)

pub returns-in_err-sum : goal.returns-in_err-sum
returns-in_err-sum c =
    let fm : SFits w128 (get_or c.args.multipliers.now c.loop-row.row-index (0, pos 0)).1 = search rules in
    let fe : SFits w128 c.entry_at-entry.result = search rules in
    let b = rw (to_z-of_z w128 _ fm, to_z-of_z w128 _ fe) at c.in_ok-product.ensures in
    let e = c.entry_at-entry.ensures in
    rw c.from_residual-in_err-sum.ensures (λ f.
    let g = summing-fits (part_at c.args.column) (map constraint_of c.args.rows.now) c.args.multipliers.now (cast_signed w128 c.loop-row.sum-bits) c.loop-row.row-index (0, pos 0) c.loop-row.invariant c.loop-row-test.true f in
    let h = rw (← e, ← b.1) at g.1 in
    c.in_err-sum.ensures (omega (arith, ints, b.0, h)))

pub loop-row-preserved : goal.loop-row-preserved
loop-row-preserved c =
    let fm : SFits w128 (get_or c.args.multipliers.now c.loop-row.row-index (0, pos 0)).1 = search rules in
    let fe : SFits w128 c.entry_at-entry.result = search rules in
    let b = rw (to_z-of_z w128 _ fm, to_z-of_z w128 _ fe, c.entry_at-entry.ensures) at c.in_ok-product.ensures in
    let fp : SFits w128 c.in_ok-product.product = rw b.1 b.0 in
    let s = rw (to_z-of_z w128 _ fp, b.1) at c.in_ok-sum.ensures in
    let fs : SFits w128 c.in_ok-sum.sum = rw s.1 s.0 in
    rw (to_z-of_z w128 _ fs)
    (summing-more (part_at c.args.column) (map constraint_of c.args.rows.now) c.args.multipliers.now (cast_signed w128 c.loop-row.sum-bits) _ c.loop-row.row-index (0, pos 0) c.loop-row.invariant c.loop-row-test.true b.0 s.0 s.1)
