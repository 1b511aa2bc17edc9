-- When the sum of two multiples is refused.
use Rattle.std.specs.Prelude.{ℕ, ℤ, ◌+ℤ◌, ◌*ℤ◌, ◌≤ℤ◌, ◌<◌, ◌^◌, FitsSigned, unsigned_abs, Result, Ok, Err}
use Rattle.std.specs.Int.{w128}
use Rattle.sv_linear.specs.Columns.{IsBefore}
use Rattle.sv_linear.specs.declared.column.Column.{Column}
use Rattle.sv_linear.specs.declared.column.Column.TheVariants.{Unknown, Constant}
use Rattle.sv_linear.specs.declared.fault.CombineFault.{CombineFault}
use Rattle.sv_linear.specs.declared.fault.CombineFault.TheVariants.{Outside, Memory}
use Rattle.sv_linear.specs.declared.form.Form.{Form}

-- from -(2^127 - 1) to 2^127 - 1, so that its negative is a number of 128 bits too
abbrev pub IsSymmetric : ℤ → Type 0
IsSymmetric z = unsigned_abs z < 2 ^ 127

-- p times a, q times b and their sum are
abbrev pub FitsSymmetric : ℤ → ℤ → ℤ → ℤ → Type 0
FitsSymmetric p a q b = IsSymmetric (p *ℤ a) × (IsSymmetric (q *ℤ b) × IsSymmetric (p *ℤ a +ℤ q *ℤ b))

-- a number of 128 bits that isn't below least
abbrev pub IsFrom : ℤ → ℤ → Type 0
IsFrom least z = (least ≤ℤ z) × FitsSigned w128 z

-- p times a, q times b and their sum are
abbrev pub FitsFrom : ℤ → ℤ → ℤ → ℤ → ℤ → Type 0
FitsFrom least p a q b = IsFrom least (p *ℤ a) × (IsFrom least (q *ℤ b) × IsFrom least (p *ℤ a +ℤ q *ℤ b))

-- the first column where the fact fails
pub record IsFirstOutside (fits : Column → Type 0) (column : Column) : Type 0 where
  pub outside : fits column → ⊥
  pub first : (c : Column) → IsBefore c column → fits c

-- Ok only where the fact holds at each column, and Outside only with the first where it fails
abbrev pub IsOutsideExactly : (Column → Type 0) → Result Form CombineFault → Type 0
IsOutsideExactly fits (Ok f) = (c : Column) → fits c
IsOutsideExactly fits (Err (Outside column)) = IsFirstOutside fits column
IsOutsideExactly fits (Err (Memory e)) = Unit {0}

-- of a fault met before the constant: the first unknown where the fact fails
abbrev pub IsFirstUnknown : (ℕ → Type 0) → CombineFault → Type 0
IsFirstUnknown fits (Outside (Unknown u)) = (fits u → ⊥) × ((v : ℕ) → v < u → fits v)
IsFirstUnknown fits (Outside Constant) = ⊥
IsFirstUnknown fits (Memory e) = Unit {0}
