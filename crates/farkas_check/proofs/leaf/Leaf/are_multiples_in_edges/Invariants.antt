use Rattle.std.proofs.Common.{ℕ, ◌<◌, get_or}
use Rattle.sv_linear.specs.declared.column.Column.TheVariants.{Unknown}
use Rattle.farkas_check.specs.Leaves.{leaf_rows}
use Rattle.farkas_check.specs.Fitting.{IsMultipleAt}
use Rattle.farkas_check.proofs.Covering.{no_edge}
use Rattle.farkas_check.proofs.leaf.Leaf.are_multiples_in_edges.Given as goal

abbrev pub invariant-loop-edge : goal.invariant-loop-edge
invariant-loop-edge l = (k : ℕ) → k < l.edge-index → IsMultipleAt (leaf_rows l.self) l.self.multipliers.now l.divisor (Unknown (get_or l.edges k no_edge).unknown)
