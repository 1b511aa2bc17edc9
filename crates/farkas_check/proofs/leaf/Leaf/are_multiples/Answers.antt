use Rattle.std.proofs.Common.{◌∙◌, sym, refl, arith}
use Rattle.std.specs.Int.{w128}
use Rattle.std.specs.Prelude.{All}
use Rattle.std.proofs.lemmas.Int.{to_z-of_z}
use borrow.Author.Count.{below_more}
use Rattle.sv_linear.specs.declared.column.Column.TheVariants.{Unknown}
use Rattle.farkas_check.specs.Leaves.{leaf_rows}
use Rattle.farkas_check.specs.Fitting.{IsMultipleAt}
use Rattle.farkas_check.proofs.Covering.{row_at, each_unknown, rows_within}
use Rattle.farkas_check.proofs.leaf.Leaf.are_multiples.Goals as goal

pub are_multiples_in_row-requires-clause-within : goal.are_multiples_in_row-requires-clause-within
are_multiples_in_row-requires-clause-within c =
    rows_within 0 (leaf_rows c.args.self.now) c.args.self.now.multipliers.now c.loop-row.row-index c.requires.allowed c.loop-row-test.true

pub returns-then-not-are_multiples_in_row : goal.returns-then-not-are_multiples_in_row
returns-then-not-are_multiples_in_row c = (
  (λ f. absurd (cc)),
  (λ h. sym c.if-not-are_multiples_in_row.true ∙ (rw (to_z-of_z w128 c.args.divisor c.ranges.divisor) at c.are_multiples_in_row.ensures.back) h),
)

pub loop-row-preserved : goal.loop-row-preserved
loop-row-preserved c =
    let by = to_z-of_z w128 c.args.divisor c.ranges.divisor in
    let rows = leaf_rows c.args.self.now in
    rw by
    (below_more (λ k. All (λ t. IsMultipleAt rows c.args.self.now.multipliers.now c.args.divisor (Unknown t.0)) (row_at rows c.args.self.now.multipliers.now k).terms)
    c.loop-row.row-index (rw by at c.loop-row.invariant) ((rw by at c.are_multiples_in_row.ensures.forth) c.if-not-are_multiples_in_row.false))

pub returns : goal.returns
returns c =
    let inv = rw (to_z-of_z w128 c.args.divisor c.ranges.divisor) at c.loop-row.invariant in
    ((λ t. each_unknown (leaf_rows c.args.self.now) c.args.self.now.multipliers.now c.args.divisor (λ k p. inv k (omega arith))), (λ h. refl))
