-- Rows over whole numbers: when values of their unknowns meet them, and how large their sums can grow.
use Rattle.std.specs.Prelude.{◌≡◌, ℕ, ℤ, pos, ◌≤ℤ◌, ◌+◌, ◌*◌, ◌<◌, ◌^◌, unsigned_abs, List, [], ◌∷◌, ◌++◌, map, length, get_or, Some, slice_get}
use Rattle.std.specs.List.{AllByRecursion}
use Rattle.sv_linear.specs.Combining.{IsSymmetric}
use Rattle.sv_linear.specs.Forms.{form_value, entry}
use Rattle.sv_linear.specs.Terms.{AscendsWithin}
use Rattle.sv_linear.specs.declared.column.Column.{Column}
use Rattle.sv_linear.specs.declared.form.Form.{Form}
use Rattle.sv_linear.specs.declared.row.Row.{Row}
use Rattle.sv_linear.specs.declared.row.RowKind.{RowKind}
use Rattle.sv_linear.specs.declared.row.RowKind.TheVariants.{Le, Eq}

-- the values of the unknowns: whole numbers, and then counts; an unknown behind them has the value 0
abbrev pub unknowns_of : List ℤ → List ℕ → ℕ → ℤ
unknowns_of numbers counts u = get_or (numbers ++ map pos counts) u (pos 0)

-- what a row says of the value of its form
abbrev pub Compares : RowKind → ℤ → Type 0
Compares Le z = z ≤ℤ pos 0
Compares Eq z = z ≡ pos 0

-- it does where each unknown u has the value x u
abbrev pub MeetsRow : (ℕ → ℤ) → Row → Type 0
MeetsRow x r = Compares r.kind (form_value x (pos 1) r.form)

-- so many whole numbers, and these counts, meet each row
pub record MeetsRows (integers : ℕ) (rows : List Row) (numbers : List ℤ) (counts : List ℕ) : Type 0 where
  pub count : length numbers ≡ integers
  pub each : AllByRecursion (MeetsRow (unknowns_of numbers counts)) rows

-- each entry is a number from -(2^127 - 1) to 2^127 - 1
abbrev pub HasSymmetricEntries : Form → Type 0
HasSymmetricEntries f = (c : Column) → IsSymmetric (entry c f)

-- the row names unknowns below n alone, and doesn't hold the number -2^127
pub record IsRowWithin (n : ℕ) (row : Row) : Type 0 where
  pub unknowns : AscendsWithin 0 n row.form.coefficients
  pub symmetric : HasSymmetricEntries row.form

-- the rows name unknowns alone
abbrev pub NameUnknowns : ℕ → List Row → Type 0
NameUnknowns n rows = (i : ℕ) (r : Row) → slice_get rows i ≡ Some r → AscendsWithin 0 n r.form.coefficients

-- the coefficients times the greatest amounts of their unknowns, without their signs, added up
abbrev pub terms_weight : (ℕ → ℕ) → List (ℕ × ℤ) → ℕ
terms_weight amounts [] = 0
terms_weight amounts (t ∷ ts) = unsigned_abs t.1 * amounts t.0 + terms_weight amounts ts

-- no sum of the row leaves 128 bits where no unknown u has a value of a greater amount than amounts u
abbrev pub RowFits : (ℕ → ℕ) → Row → Type 0
RowFits amounts row = unsigned_abs row.form.constant + terms_weight amounts row.form.coefficients < 2 ^ 127
