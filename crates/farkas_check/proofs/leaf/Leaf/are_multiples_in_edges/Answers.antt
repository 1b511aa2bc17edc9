use Rattle.std.proofs.Common.{◌∙◌, get_or, sym, arith}
use Rattle.std.specs.Int.{w128}
use Rattle.std.proofs.lemmas.Int.{to_z-of_z}
use Rattle.std.proofs.lemmas.List.Elements.{All-from_get_or}
use borrow.Author.Count.{below_more}
use Rattle.sv_linear.specs.declared.column.Column.TheVariants.{Unknown}
use Rattle.farkas_check.specs.Leaves.{leaf_rows}
use Rattle.farkas_check.specs.Fitting.{IsMultipleAt}
use Rattle.farkas_check.proofs.Covering.{no_edge}
use Rattle.farkas_check.proofs.leaf.Leaf.are_multiples_in_edges.Goals as goal

pub returns-then-not-is_multiple_at-clause-back : goal.returns-then-not-is_multiple_at-clause-back
returns-then-not-is_multiple_at-clause-back c = λ h.
    let e = rw (to_z-of_z w128 c.args.divisor c.ranges.divisor) at c.is_multiple_at.ensures in
    sym c.if-not-is_multiple_at.true ∙ e.1 (h (get_or c.args.edges.now c.loop-edge.edge-index no_edge).unknown)

pub loop-edge-preserved : goal.loop-edge-preserved
loop-edge-preserved c =
    let by = to_z-of_z w128 c.args.divisor c.ranges.divisor in
    let e = rw by at c.is_multiple_at.ensures in
    rw by
    (below_more (λ k. IsMultipleAt (leaf_rows c.args.self.now) c.args.self.now.multipliers.now c.args.divisor (Unknown (get_or c.args.edges.now k no_edge).unknown))
    c.loop-edge.edge-index (rw by at c.loop-edge.invariant) (e.0 c.if-not-is_multiple_at.false))

pub returns-clause-forth : goal.returns-clause-forth
returns-clause-forth c = λ told.
    let inv = rw (to_z-of_z w128 c.args.divisor c.ranges.divisor) at c.loop-edge.invariant in
    All-from_get_or (λ t. IsMultipleAt (leaf_rows c.args.self.now) c.args.self.now.multipliers.now c.args.divisor (Unknown t.unknown)) c.args.edges.now no_edge (λ k p. inv k (omega arith))
