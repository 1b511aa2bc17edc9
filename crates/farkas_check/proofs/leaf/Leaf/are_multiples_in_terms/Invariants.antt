use Rattle.std.proofs.Common.{ℕ, pos, ◌<◌, get_or}
use Rattle.sv_linear.specs.declared.column.Column.TheVariants.{Unknown}
use Rattle.farkas_check.specs.Leaves.{leaf_rows}
use Rattle.farkas_check.specs.Fitting.{IsMultipleAt}
use Rattle.farkas_check.proofs.leaf.Leaf.are_multiples_in_terms.Given as goal

abbrev pub invariant-loop-unknown : goal.invariant-loop-unknown
invariant-loop-unknown l = (k : ℕ) → k < l.unknown-index → IsMultipleAt (leaf_rows l.self) l.self.multipliers.now l.divisor (Unknown (get_or l.terms k (0, pos 0)).0)
