use Rattle.std.proofs.Common.{◌≡◌, ℕ, Some, length, slice_get}
use Rattle.sv_linear.specs.declared.row.Row.{Row}
use Rattle.number_tests.proofs.lia_tableau_calls.tableau_of.Given as goal
use Rattle.sv_linear.specs.Rows.{IsRowWithin}

abbrev pub invariant-loop-entries : goal.invariant-loop-entries
invariant-loop-entries l = record {
  size : length l.rows ≡ l.entries-index;
  each : (i : ℕ) (r : Row) → slice_get l.rows i ≡ Some r → IsRowWithin 2 r;
}
