use Rattle.std.proofs.Common.{◌≡◌, ℕ, Some, slice_get}
use Rattle.sv_linear.specs.Rows.{IsRowWithin}
use Rattle.sv_linear.specs.declared.row.Row.{Row}
use Rattle.lia_reduce.proofs.reducing.reduce.Given as goal

abbrev pub invariant-loop-sum : goal.invariant-loop-sum
invariant-loop-sum l = (i : ℕ) (r : Row) → slice_get l.rows i ≡ Some r → IsRowWithin l.system.unknowns r
