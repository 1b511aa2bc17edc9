-- The bounds of a region, by the sides of a cube's box and by the numbers near 0.
use Rattle.std.specs.Prelude.{◌≡◌, ◌↔◌, IsTrue, ℕ, ℤ, pos, neg_ℤ, ◌-◌, ◌/◌, ◌<◌, ◌≤◌, int_lt, unsigned_abs, if◌then◌else◌, Bool, false, not, map, length, Some, None, replicate}
use Rattle.sv_terms.specs.CutOff.{cut_off}
use Rattle.search_hits.specs.declared.region.Region.{Region}
use Rattle.cube_bounds.specs.Sides.{Side, integer_sides, register_sides}
use Rattle.flat_cubes.specs.declared.flat.Flat.{Flat}
use Rattle.cube_region.specs.Regions.{IsNearOwed, IsNearSide, quantities}

-- a side that holds no number
abbrev pub no_total : ℕ × ℕ
no_total = (1, 0)

abbrev pub no_number : ℤ × ℤ
no_number = (pos 1, pos 0)

-- of a register, whose total isn't below 0
abbrev pub register_bounds : Side → ℕ × ℕ
register_bounds None = no_total
register_bounds (Some s) = if int_lt s.1 (pos 0) then no_total else (0, cut_off (unsigned_abs s.1))

abbrev pub integer_bounds : Side → ℤ × ℤ
integer_bounds None = no_number
integer_bounds (Some s) = s

-- the box, where each quantity has a side
abbrev pub box_of : Flat → Region
box_of flat = record { empty = false; registers = map register_bounds (register_sides flat); integers = map integer_bounds (integer_sides flat) }

-- from the least to the greatest of the first s numbers near 0
abbrev pub near_bounds : ℕ → ℤ × ℤ
near_bounds s = (neg_ℤ (pos ((s - 1) / 2)), pos (s / 2))

-- the near values with so many for each quantity, or nothing
abbrev pub near_region : Flat → ℕ → Bool → Region
near_region flat s searched = record { empty = not searched; registers = replicate (length flat.registers) (0, s - 1); integers = replicate (length flat.integers) (near_bounds s) }

-- the near values, as many for each quantity as there can be; nothing where they aren't searched
pub record IsNearRegion (flat : Flat) (region : Region) : Type 0 where
  pub side : ℕ
  pub searched : Bool
  pub are : region ≡ near_region flat side searched
  pub greatest : 0 < quantities flat → IsNearSide (quantities flat) side
  pub some : 1 ≤ side
  pub owed : IsTrue searched ↔ IsNearOwed flat side
