-- Where leaves are searched: the box of a flat cube where that is small, and else the values near 0.
use Rattle.std.specs.Prelude.{◌≡◌, ℕ, ℤ, pos, neg_ℤ, ◌+◌, ◌-◌, ◌*◌, ◌/◌, ◌%◌, ◌^◌, ◌<◌, ◌≤◌, ◌≤ℤ◌, nat_eq, nat_le, if◌then◌else◌, false, List, length, All}
use Rattle.std.specs.List.{AllByRecursion}
use Rattle.sv_linear.specs.Rows.{MeetsRows, RowFits}
use Rattle.search_hits.specs.Regions.{IsInRegion, FitsRegion, points}
use Rattle.search_hits.specs.declared.region.Region.{Region}
use Rattle.cube_bounds.specs.Bounds.{states, sources}
use Rattle.cube_bounds.specs.Growth.{reach}
use Rattle.cube_bounds.specs.Sides.{IsSmall}
use Rattle.cube_bounds.specs.declared.work.TheConstants.{MOST_WORK}
use Rattle.flat_cubes.specs.declared.flat.Flat.{Flat}
use Rattle.sv_terms.specs.declared.limits.TheConstants.{MOST_POINTS}

-- how many registers and integer constants there are
abbrev pub quantities : Flat → ℕ
quantities flat = length flat.registers + length flat.integers

-- s is the greatest number such that so many factors s come to at most MOST_POINTS
pub record IsNearSide (count s : ℕ) : Type 0 where
  pub within : s ^ count ≤ MOST_POINTS
  pub greatest : MOST_POINTS < (s + 1) ^ count

-- the numbers near 0, in the order 0, 1, -1, 2, -2 and so on
abbrev pub near_number : ℕ → ℤ
near_number i = if nat_eq (i % 2) 0 then neg_ℤ (pos (i / 2)) else pos ((i + 1) / 2)

-- z is one of the first s numbers near 0
abbrev pub IsNearNumber : ℕ → ℤ → Type 0
IsNearNumber s z = (i : ℕ) × (i < s) × (z ≡ near_number i)

-- the greatest amount of a near value of each unknown of the rows: the integer constants come first, then the registers
abbrev pub near_amount : Flat → ℕ → ℕ → ℕ
near_amount flat s u = if nat_le (length flat.integers) u then s - 1 else s / 2

-- the near values with so many for each quantity are searched: that is little work, within the reach, and every row fits them
pub record IsNearOwed (flat : Flat) (s : ℕ) : Type 0 where
  pub few : states flat * s ^ quantities flat * sources flat ≤ MOST_WORK
  pub within : pos (states flat * s ^ quantities flat * sources flat) ≤ℤ reach flat
  pub fits : AllByRecursion (RowFits (near_amount flat s)) flat.rows

-- near values: each register's total is below s, and each integer constant has one of the first s numbers near 0, where s is the greatest number such that
-- s values of each quantity make at most MOST_POINTS points. Where there is no quantity, nothing is restricted. There are none where they aren't searched
pub record Near (flat : Flat) (numbers : List ℤ) (totals : List ℕ) : Type 0 where
  pub side : ℕ
  pub greatest : 0 < quantities flat → IsNearSide (quantities flat) side
  pub owed : IsNearOwed flat side
  pub registers : All (λ n. n < side) totals
  pub integers : All (IsNearNumber side) numbers

-- The region has a side for each register, also where it is empty. Where the box is small, it holds whatever meets the rows; and else the near values.
-- One that isn't empty has a side for each integer constant too, so few points that its search stays within the reach, and fits every row.
pub record IsRegionFor (flat : Flat) (region : Region) : Type 0 where
  pub registers : length region.registers ≡ length flat.registers
  pub integers : region.empty ≡ false → length region.integers ≡ length flat.integers
  pub box : IsSmall flat → (numbers : List ℤ) (totals : List ℕ) → length totals ≡ length flat.registers
      → MeetsRows (length flat.integers) flat.rows numbers totals → IsInRegion region numbers totals
  pub near : (IsSmall flat → ⊥) → (numbers : List ℤ) (totals : List ℕ) → length totals ≡ length flat.registers → length numbers ≡ length flat.integers
      → Near flat numbers totals → IsInRegion region numbers totals
  pub bound : region.empty ≡ false → pos (states flat * points region * sources flat) ≤ℤ reach flat
  pub fits : region.empty ≡ false → All (FitsRegion region) flat.rows
