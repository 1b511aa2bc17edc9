use Rattle.std.proofs.Common.{ℕ, ◌<◌}
use Rattle.std.specs.Prelude.{All}
use Rattle.sv_linear.specs.declared.column.Column.TheVariants.{Unknown}
use Rattle.farkas_check.specs.Leaves.{leaf_rows}
use Rattle.farkas_check.specs.Fitting.{IsMultipleAt}
use Rattle.farkas_check.proofs.Covering.{row_at}
use Rattle.farkas_check.proofs.leaf.Leaf.are_multiples.Given as goal

abbrev pub invariant-loop-row : goal.invariant-loop-row
invariant-loop-row l = (k : ℕ) → k < l.row-index → All (λ t. IsMultipleAt (leaf_rows l.self) l.self.multipliers.now l.divisor (Unknown t.0)) (row_at (leaf_rows l.self) l.row-items k).terms
