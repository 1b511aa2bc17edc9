-- Points of a box, which has one side for each unknown, that meet rows.
use Rattle.std.specs.Prelude.{◌≡◌, ℕ, ℤ, pos, ◌<◌, ◌≤ℤ◌, List, length, All, get_or, slice_get, Option, Some, None}
use Rattle.std.specs.List.{AllByRecursion}
use Rattle.sv_linear.specs.Rows.{MeetsRow, RowFits}
use Rattle.sv_linear.specs.declared.row.Row.{Row}
use Rattle.search_hits.specs.Regions.{IsWithin, AreWithin, amounts}

-- the side holds some number
abbrev pub IsSide : ℤ × ℤ → Type 0
IsSide s = s.0 ≤ℤ s.1

-- the side holds one number alone
abbrev pub HoldsOne : ℤ × ℤ → Type 0
HoldsOne s = s.0 ≡ s.1

-- each unknown has a value within its side
abbrev pub AreAt : List (ℤ × ℤ) → (ℕ → ℤ) → Type 0
AreAt sides x = (u : ℕ) (s : ℤ × ℤ) → slice_get sides u ≡ Some s → IsWithin s (x u)

-- each unknown that a row names has a side
abbrev pub HaveSides : ℕ → List Row → Type 0
HaveSides n = All (λ r. All (λ t. t.0 < n) r.form.coefficients)

-- no sum of the row's terms at a point of the box leaves 128 bits
abbrev pub FitsSides : List (ℤ × ℤ) → Row → Type 0
FitsSides sides = RowFits (amounts sides)

-- the value of each unknown at a point; an unknown behind it has the value 0
abbrev pub value_at : List ℤ → ℕ → ℤ
value_at point u = get_or point u (pos 0)

-- the point meets each row
abbrev pub MeetAll : List Row → List ℤ → Type 0
MeetAll rows point = AllByRecursion (MeetsRow (value_at point)) rows

-- each side holds some number, the rows name unknowns with sides alone, and no sum of theirs leaves 128 bits
pub record IsBox (rows : List Row) (sides : List (ℤ × ℤ)) : Type 0 where
  pub some : All IsSide sides
  pub unknowns : HaveSides (length sides) rows
  pub fits : All (FitsSides sides) rows

-- a point of the box that meets the rows, or none where no point of it does
abbrev pub IsPointFound : List Row → List (ℤ × ℤ) → Option (List ℤ) → Type 0
IsPointFound rows sides None = (point : List ℤ) → AreWithin sides point → MeetAll rows point → ⊥
IsPointFound rows sides (Some point) = AreWithin sides point × MeetAll rows point

-- the side that holds this number alone
abbrev pub point_side : ℕ → ℤ × ℤ
point_side n = (pos n, pos n)
