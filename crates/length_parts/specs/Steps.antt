-- One row of a flat cube becomes a part.
use Rattle.std.specs.Prelude.{◌≡◌, ℕ, zero, suc, ℤ, true, List, [], ◌∷◌, ◌++◌, Some, slice_get}
use Rattle.std.specs.List.{remove}
use Rattle.sv_linear.specs.declared.row.Row.{Row}
use Rattle.flat_cubes.specs.declared.variable.Own.{Own}
use Rattle.flat_cubes.specs.declared.variable.Variable.{Variable}
use Rattle.flat_cubes.specs.declared.flat.Flat.{Flat}
use Rattle.length_parts.specs.Rewriting.{IsBoundBy, IsRegisterOf}
use Rattle.length_parts.specs.declared.bound.LengthBound.{LengthBound}

-- a variable with one more part that is to hold
abbrev pub with_own : Own → Variable → Variable
with_own o v = record { names = v.names; parts = v.parts ++ (o, true) ∷ [] }

-- the variable at this place with one more part
abbrev pub parted : Own → ℕ → List Variable → List Variable
parted o v [] = []
parted o zero (x ∷ xs) = with_own o x ∷ xs
parted o (suc v) (x ∷ xs) = x ∷ parted o v xs

-- the cube with one more part of this variable, and without the row at this place
abbrev pub with_part : Flat → ℕ → ℕ → Own → Flat
with_part flat at v o = record flat { variables = parted o v flat.variables; rows = remove flat.rows at }

-- the row at this place says just that the length of this variable is within the bound
pub record IsBoundRow (flat : Flat) (at variable : ℕ) (b : LengthBound) : Type 0 where
  pub row : Row
  pub is : slice_get flat.rows at ≡ Some row
  pub unknown : ℕ
  pub coefficient : ℤ
  pub terms : row.form.coefficients ≡ (unknown, coefficient) ∷ []
  pub register : IsRegisterOf flat unknown variable
  pub says : IsBoundBy row.kind coefficient row.form.constant b
