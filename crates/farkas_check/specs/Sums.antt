-- Sums of multiplied rows, a number for each column.
use Rattle.std.specs.Prelude.{◌≡◌, ℕ, ℤ, pos, ◌+ℤ◌, ◌*ℤ◌, List, get_or, FitsSigned}
use Rattle.std.specs.Int.{w128}
use Rattle.sv_linear.specs.Forms.{entry}
use Rattle.sv_linear.specs.Terms.{coefficient}
use Rattle.sv_linear.specs.declared.column.Column.{Column}
use Rattle.sv_linear.specs.declared.column.Column.TheVariants.{Unknown, Constant}
use Rattle.sv_linear.specs.declared.form.Form.{Form}
use Rattle.farkas_check.specs.Systems.{Constraint}
use Rattle.farkas_check.specs.Closings.{combined}
use Rattle.farkas_check.specs.Columns.{part_at}
use Rattle.farkas_check.specs.Fitting.{LeafFits}
use Rattle.farkas_check.specs.declared.leaf_sum.LeafSum.{LeafSum}

-- the sum's number at a column
abbrev pub total_at : LeafSum → Column → ℤ
total_at s (Unknown u) = get_or s.numbers u (pos 0)
total_at s Constant = s.constant

-- it is the sum of the multiplied rows, of which no part leaves 128 bits
pub record IsSumOf (rows : List Constraint) (ms : List (ℕ × ℤ)) (s : LeafSum) : Type 0 where
  pub fits : LeafFits rows ms
  pub entry_is : (c : Column) → total_at s c ≡ combined (part_at c) rows ms

-- so many times the form has been added, and neither the product nor the new sum leaves 128 bits
pub record IsFormAdded (sum : LeafSum) (other : Form) (by : ℤ) (next : LeafSum) : Type 0 where
  pub product_fits : (c : Column) → FitsSigned w128 (by *ℤ entry c other)
  pub sum_fits : (c : Column) → FitsSigned w128 (total_at sum c +ℤ by *ℤ entry c other)
  pub entry_is : (c : Column) → total_at next c ≡ total_at sum c +ℤ by *ℤ entry c other

-- at some column one of them does
pub record IsNotAdded (sum : LeafSum) (other : Form) (by : ℤ) : Type 0 where
  pub column : Column
  pub outside : FitsSigned w128 (by *ℤ entry column other) → FitsSigned w128 (total_at sum column +ℤ by *ℤ entry column other) → ⊥

-- the same at one column
pub record IsColumnAdded (number coefficient by next : ℤ) : Type 0 where
  pub product_fits : FitsSigned w128 (by *ℤ coefficient)
  pub sum_fits : FitsSigned w128 (number +ℤ by *ℤ coefficient)
  pub is : next ≡ number +ℤ by *ℤ coefficient

abbrev pub IsNotAddedAt : ℤ → ℤ → ℤ → Type 0
IsNotAddedAt number coefficient by = FitsSigned w128 (by *ℤ coefficient) → FitsSigned w128 (number +ℤ by *ℤ coefficient) → ⊥

-- and at all unknowns
abbrev pub AreColumnsAdded : List ℤ → List (ℕ × ℤ) → ℤ → List ℤ → Type 0
AreColumnsAdded numbers ts by next = (u : ℕ) → IsColumnAdded (get_or numbers u (pos 0)) (coefficient u ts) by (get_or next u (pos 0))

abbrev pub AreNotAdded : List ℤ → List (ℕ × ℤ) → ℤ → Type 0
AreNotAdded numbers ts by = (u : ℕ) × IsNotAddedAt (get_or numbers u (pos 0)) (coefficient u ts) by

abbrev pub NumbersFit : List ℤ → Type 0
NumbersFit numbers = (u : ℕ) → FitsSigned w128 (get_or numbers u (pos 0))
