-- What a row within some unknowns has at each term.
use Rattle.std.proofs.Common.{◌≡◌, ℕ, zero, suc, ◌<◌, ℤ, pos, List, [], ◌∷◌, length, slice_get, get_or, Some, refl, subst, arith}
use Rattle.farkas_check.proofs.Dense.{term_below}
use Rattle.sv_linear.specs.Combining.{IsSymmetric}
use Rattle.sv_linear.specs.Rows.{IsRowWithin}
use Rattle.sv_linear.specs.TermLaws.{term_here}
use Rattle.sv_linear.specs.declared.column.Column.TheVariants.{Unknown}
use Rattle.sv_linear.specs.declared.row.Row.{Row}

got : (ts : List (ℕ × ℤ)) (k : ℕ) → k < length ts → slice_get ts k ≡ Some (get_or ts k (0, pos 0))
got [] k h = absurd (omega arith)
got (t ∷ ts) zero h = refl
got (t ∷ ts) (suc k) h = got ts k (omega arith)

-- the unknown of a term is one of those, and its coefficient isn't the least number
pub term_within : (n : ℕ) (row : Row) (k : ℕ) → IsRowWithin n row → k < length row.form.coefficients →
    ((get_or row.form.coefficients k (0, pos 0)).0 < n) × IsSymmetric (get_or row.form.coefficients k (0, pos 0)).1
term_within n row k w h =
    let t = get_or row.form.coefficients k (0, pos 0) in
    let here = term_here 0 n row.form.coefficients k t w.unknowns (got row.form.coefficients k h) in
    (term_below 0 n row.form.coefficients k w.unknowns h, subst IsSymmetric here.is (w.symmetric (Unknown t.0)))
