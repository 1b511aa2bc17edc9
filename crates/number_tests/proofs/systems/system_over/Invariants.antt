use Rattle.std.proofs.Common.{◌≡◌, ℕ, ◌<◌, Some, slice_get}
use Rattle.sv_linear.specs.Rows.{IsRowWithin}
use Rattle.sv_linear.specs.declared.row.Row.{Row}
use Rattle.number_tests.proofs.systems.system_over.Given as goal

abbrev pub invariant-loop-row : goal.invariant-loop-row
invariant-loop-row l = (i : ℕ) (r : Row) → i < l.row-index → slice_get l.row-items i ≡ Some r → IsRowWithin l.unknowns r
