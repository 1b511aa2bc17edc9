-- Regions: bounds on the totals of registers and on whole numbers, and when rows can be added up within them.
use Rattle.std.specs.Prelude.{◌≡◌, ℕ, ℤ, pos, ◌+◌, ◌*◌, ◌-ℤ◌, ◌≤◌, ◌≤ℤ◌, max, false, List, [], ◌∷◌, ◌++◌, length, map, All, get_or, unsigned_abs, if◌then◌else◌, int_le}
use Rattle.std.specs.List.{AllZip}
use Rattle.sv_linear.specs.Rows.{NameUnknowns, RowFits}
use Rattle.sv_linear.specs.declared.row.Row.{Row}
use Rattle.machine_core.specs.declared.graph.Graph.{Graph}
use Rattle.machine_core.specs.declared.run.Run.{Run}
use Rattle.machine_core.specs.Costs.{top_by}
use Rattle.search_hits.specs.Hits.{IsHit, HaveRegisters, runs_total, characters}
use Rattle.search_hits.specs.declared.region.Region.{Region}

-- a number lies between the two ends of a side, ends included
abbrev pub IsWithin : ℤ × ℤ → ℤ → Type 0
IsWithin s z = (s.0 ≤ℤ z) × (z ≤ℤ s.1)

abbrev pub AreWithin : List (ℤ × ℤ) → List ℤ → Type 0
AreWithin = AllZip IsWithin

abbrev pub whole_side : ℕ × ℕ → ℤ × ℤ
whole_side s = (pos s.0, pos s.1)

-- the sides of the unknowns, integers first and then registers
abbrev pub sides_of : Region → List (ℤ × ℤ)
sides_of region = region.integers ++ map whole_side region.registers

-- nothing lies in a region that is marked as empty; in another one, what lies within all sides
pub record IsInRegion (region : Region) (integers : List ℤ) (totals : List ℕ) : Type 0 where
  pub not_empty : region.empty ≡ false
  pub numbers : AreWithin region.integers integers
  pub registers : AreWithin (map whole_side region.registers) (map pos totals)

-- the greatest amount of a number between the two ends, and 0 where there is no such number
abbrev pub greatest_amount : ℤ × ℤ → ℕ
greatest_amount s = if int_le s.0 s.1 then max (unsigned_abs s.0) (unsigned_abs s.1) else 0

-- the greatest amount of an unknown's value, where each unknown has a side
abbrev pub amounts : List (ℤ × ℤ) → ℕ → ℕ
amounts sides u = greatest_amount (get_or sides u (pos 0, pos 0))

-- no sum of the row's terms at a point of the region leaves 128 bits
abbrev pub FitsRegion : Region → Row → Type 0
FitsRegion region = RowFits (amounts (sides_of region))

-- how many totals of a register there are from 0 to its upper end
abbrev pub register_points : List (ℕ × ℕ) → ℕ
register_points [] = 1
register_points (s ∷ ss) = (s.1 + 1) * register_points ss

-- how many numbers lie between the two ends; 1 where none does
abbrev pub side_points : ℤ × ℤ → ℕ
side_points s = if int_le s.0 s.1 then unsigned_abs (s.1 -ℤ s.0) + 1 else 1

abbrev pub integer_points : List (ℤ × ℤ) → ℕ
integer_points [] = 1
integer_points (s ∷ ss) = side_points s * integer_points ss

-- the points of the region, where the side of a register counts from 0 on
abbrev pub points : Region → ℕ
points region = register_points region.registers * integer_points region.integers

-- the greatest number of states of a machine
abbrev pub greatest_states : List Graph → ℕ
greatest_states = top_by (λ m. m.states)

-- a hit whose numbers and totals lie in the region, which has a side for each register
pub record IsHitWithin (machines : List Graph) (integers : ℕ) (rows : List Row) (region : Region) (runs : List (Run ℕ)) (numbers : List ℤ) : Type 0 where
  pub hit : IsHit machines (length region.registers) integers rows runs numbers
  pub within : IsInRegion region numbers (runs_total (length region.registers) runs)

-- such a hit, with words that are short together
pub record IsShortHit (machines : List Graph) (integers : ℕ) (rows : List Row) (region : Region) (runs : List (Run ℕ)) (numbers : List ℤ) : Type 0 where
  pub hit : IsHitWithin machines integers rows region runs numbers
  pub short : characters runs ≤ greatest_states machines * points region * length machines

-- the region has a side for each register of the machines and for each of so many integers, and the rows name these unknowns alone and fit the region
pub record IsQuestion (machines : List Graph) (integers : ℕ) (rows : List Row) (region : Region) : Type 0 where
  pub registers : HaveRegisters (length region.registers) machines
  pub integer_sides : length region.integers ≡ integers
  pub unknowns : NameUnknowns (integers + length region.registers) rows
  pub fits : All (FitsRegion region) rows
