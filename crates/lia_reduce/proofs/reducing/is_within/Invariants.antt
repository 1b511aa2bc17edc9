use Rattle.std.proofs.Common.{ℕ, pos, get_or, ◌<◌}
use Rattle.sv_linear.specs.Combining.{IsSymmetric}
use Rattle.lia_reduce.proofs.reducing.is_within.Given as goal

abbrev pub invariant-loop-unknown : goal.invariant-loop-unknown
invariant-loop-unknown l = record {
  below : (k : ℕ) → k < l.unknown-index → (get_or l.row.form.coefficients k (0, pos 0)).0 < l.unknowns;
  symmetric : (k : ℕ) → k < l.unknown-index → IsSymmetric (get_or l.row.form.coefficients k (0, pos 0)).1;
}
