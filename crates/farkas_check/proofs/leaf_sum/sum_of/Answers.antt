use Rattle.std.proofs.Common.{rules, pos, get_or, map, ◌<◌, refl, ◌∙◌, subst, arith}
use Rattle.std.specs.Int.{w128}
use Rattle.std.proofs.lemmas.Int.{to_z-of_z}
use mir.Val.{SFits}
use Rattle.farkas_check.specs.Systems.{constraint_of}
use Rattle.farkas_check.proofs.LeafSums.{rows_size, all-row, all-not, all-more, all-done}
use Rattle.farkas_check.proofs.leaf_sum.sum_of.Goals as goal

pub form_at-requires : goal.form_at-requires
form_at-requires c =
    subst (λ n. (get_or c.args.multipliers.now c.loop-row.row-index (0, pos 0)).0 < n) (rows_size c.args.rows.now)
    (all-row (map constraint_of c.args.rows.now) c.args.multipliers.now c.loop-row.sum c.loop-row.row-index c.loop-row.invariant.all c.loop-row-test.true)

pub returns-then-not-add_multiple : goal.returns-then-not-add_multiple
returns-then-not-add_multiple c =
    let fm : SFits w128 (get_or c.args.multipliers.now c.loop-row.row-index (0, pos 0)).1 = search rules in
    let n = (rw (to_z-of_z w128 _ fm) at c.if-not-add_multiple.ensures.past) refl in
    all-not (map constraint_of c.args.rows.now) c.args.multipliers.now c.loop-row.sum c.form_at.result.now c.loop-row.row-index c.loop-row.invariant.all c.loop-row-test.true c.form_at.ensures.entries n

pub loop-row-preserved : goal.loop-row-preserved
loop-row-preserved c =
    let fm : SFits w128 (get_or c.args.multipliers.now c.loop-row.row-index (0, pos 0)).1 = search rules in
    let n = (rw (to_z-of_z w128 _ fm) at c.if-not-add_multiple.ensures.added) refl in
    record {
      all = all-more (map constraint_of c.args.rows.now) c.args.multipliers.now c.loop-row.sum c.add_multiple.new.sum c.form_at.result.now c.loop-row.row-index c.loop-row.invariant.all c.loop-row-test.true c.form_at.ensures.entries n;
      size = c.add_multiple.ensures.size ∙ c.loop-row.invariant.size;
    }

pub returns : goal.returns
returns c = all-done (map constraint_of c.args.rows.now) c.args.multipliers.now c.loop-row.sum c.loop-row.row-index c.loop-row.invariant.all (omega (arith, c.loop-row-test.false))
