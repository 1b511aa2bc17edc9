-- What is asked of one family of machines, and what must hold of it.
use Rattle.std.specs.Prelude.{◌≡◌, ℕ, ℤ, ◌+◌, ◌*◌, ◌≤◌, ◌^◌, List, [], ◌∷◌, length, All, Bool, true, false, Some, slice_get}
use Rattle.sv_linear.specs.Rows.{IsRowWithin}
use Rattle.sv_linear.specs.declared.row.Row.{Row}
use Rattle.machine_core.specs.declared.graph.Graph.{Graph}
use Rattle.machine_core.specs.declared.run.Run.{Run}
use Rattle.search_hits.specs.Hits.{IsHit, HaveRegisters, runs_total}
use Rattle.search_hits.specs.Regions.{IsInRegion, FitsRegion, points, greatest_states}
use Rattle.search_hits.specs.declared.region.Region.{Region}

-- the fact holds of all runs and whole numbers that meet the rows
abbrev pub EachHit : List Graph → ℕ → ℕ → List Row → (List (Run ℕ) → List ℤ → Type 0) → Type 0
EachHit machines registers integers rows fact =
    (runs : List (Run ℕ)) (numbers : List ℤ) → IsHit machines registers integers rows runs numbers → fact runs numbers

-- the runs and whole numbers lie in the region
abbrev pub LieIn : Region → List (Run ℕ) → List ℤ → Type 0
LieIn region runs numbers = IsInRegion region numbers (runs_total (length region.registers) runs)

-- The machines have one register for each side of the region, also of an empty one. The rows name integers and registers alone, and don't hold the number -2^127. Where `small` is true the region holds every hit. One that isn't empty is within the reach, and the rows can be added up in it.
pub record IsAsked (machines : List Graph) (integers : ℕ) (rows : List Row) (region : Region) (small : Bool) (reach : ℕ) : Type 0 where
  pub few_machines : length machines ≤ 2 ^ 32
  pub registers : HaveRegisters (length region.registers) machines
  pub few_registers : length region.registers ≤ 64
  pub few_integers : integers ≤ 64
  pub rows_within : (i : ℕ) (r : Row) → slice_get rows i ≡ Some r → IsRowWithin (integers + length region.registers) r
  pub few_characters : reach ≤ 4194303
  pub holds : small ≡ true → EachHit machines (length region.registers) integers rows (LieIn region)
  pub short : region.empty ≡ false → greatest_states machines * points region * length machines ≤ reach
  pub sides : region.empty ≡ false → length region.integers ≡ integers
  pub fits : region.empty ≡ false → All (FitsRegion region) rows

-- the states of all machines together
abbrev pub total_states : List Graph → ℕ
total_states [] = 0
total_states (m ∷ ms) = m.states + total_states ms
