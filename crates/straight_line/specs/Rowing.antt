-- The rows of a flat cube with their unknowns.
use Rattle.std.specs.Prelude.{◌≡◌, ℕ, ◌<◌, ◌≤◌, ◌⊎◌, ⊤, List, ◌++◌, map, filter, length, get_or, Result, Ok, Err}
use Rattle.std.specs.List.{AllZip}
use Rattle.literal_forms.specs.Linear.{integer, length_of}
use Rattle.literal_forms.specs.Shapes.{Shape}
use Rattle.flat_cubes.specs.Drafted.{integers_among, registers_among}
use Rattle.flat_cubes.specs.Flattening.{Bounded, IsRowFor, has_column, most_registers}
use Rattle.flat_cubes.specs.declared.draft.Quantity.{Quantity}
use Rattle.flat_cubes.specs.declared.fault.FlatFault.{FlatFault}
use Rattle.flat_cubes.specs.declared.fault.FlatFault.TheVariants.{Outside, Twice, Cycle, Wide, Memory}
use Rattle.straight_line.specs.declared.rowing.Rows.{Rows}

-- the integer constants, and the terms with their places, that have a column in these forms
abbrev pub integers_for : List Bounded → List Quantity → List (List ℕ)
integers_for bs qs = filter (λ (name : List ℕ). has_column bs (integer name)) (integers_among qs)

abbrev pub registers_for : List Shape → List Bounded → List Quantity → List (Shape × ℕ)
registers_for ts bs qs = filter (λ (r : Shape × ℕ). has_column bs (length_of r.0)) (registers_among ts qs)

-- the rows of these forms over the unknowns with a column, by the variables of places
pub record AreRows (of : List ℕ) (ts : List Shape) (bs : List Bounded) (qs : List Quantity) (s : Rows) : Type 0 where
  pub integers : s.integers ≡ integers_for bs qs
  pub registers : s.registers ≡ map (λ (r : Shape × ℕ). get_or of r.1 0) (registers_for ts bs qs)
  pub rows : AllZip (IsRowFor (map integer (integers_for bs qs) ++ map (λ (r : Shape × ℕ). length_of r.0) (registers_for ts bs qs))) bs s.rows
  pub few_registers : length s.registers ≤ most_registers
  pub few_integers : length s.integers ≤ most_registers

-- this number, or want of memory
abbrev pub IsNumber : ℕ → FlatFault → Type 0
IsNumber n (Outside l) = ⊥
IsNumber n (Twice v) = ⊥
IsNumber n (Cycle vs) = ⊥
IsNumber n (Wide m) = m ≡ n
IsNumber n (Memory e) = ⊤

-- the rows, or the number of registers or integer constants that is above 64
abbrev pub AreRowsExactly : List ℕ → List Shape → List Bounded → List Quantity → Result Rows FlatFault → Type 0
AreRowsExactly of ts bs qs (Ok s) = AreRows of ts bs qs s
AreRowsExactly of ts bs qs (Err (Outside l)) = ⊥
AreRowsExactly of ts bs qs (Err (Twice v)) = ⊥
AreRowsExactly of ts bs qs (Err (Cycle vs)) = ⊥
AreRowsExactly of ts bs qs (Err (Wide n)) = ((n ≡ length (registers_for ts bs qs)) ⊎ (n ≡ length (integers_for bs qs))) × (most_registers < n)
AreRowsExactly of ts bs qs (Err (Memory e)) = ⊤
