-- The lengths of the words of a flat cube, as unknowns of rows.
use Rattle.std.specs.Prelude.{◌≡◌, ℕ, ◌+◌, ◌-◌, nat_lt, ℤ, pos, if◌then◌else◌, List, length}
use Rattle.std.specs.List.{AllByRecursion}
use Rattle.sv_terms.specs.Language.{Word}
use Rattle.sv_linear.specs.Rows.{MeetsRow, unknowns_of}
use Rattle.sv_linear.specs.declared.row.Row.{Row}
use Rattle.flat_cubes.specs.Satisfying.{Satisfies, lengths_of, word_at}
use Rattle.flat_cubes.specs.declared.flat.Flat.{Flat}

-- all rows are met where each unknown u has the value x u
abbrev pub AreMet : (ℕ → ℤ) → List Row → Type 0
AreMet x rows = AllByRecursion (MeetsRow x) rows

-- the unknowns behind so many are the lengths of the words of the variables, in their order
abbrev pub HasLengths : ℕ → (ℕ → ℤ) → List Word → Type 0
HasLengths base x words = (v : ℕ) → x (base + v) ≡ pos (length (word_at words v))

-- the number of unknowns of the cube's own rows
abbrev pub own_unknowns : Flat → ℕ
own_unknowns flat = length flat.integers + length flat.registers

-- the unknowns of the cube's own rows, and behind them the lengths of all variables
abbrev pub values_of : Flat → List Word → List ℤ → ℕ → ℤ
values_of flat words numbers u =
    if nat_lt u (own_unknowns flat) then unknowns_of numbers (lengths_of flat.registers words) u else pos (length (word_at words (u - own_unknowns flat)))

-- whatever satisfies the cube meets all rows
abbrev pub AreImplied : Flat → List Row → Type 0
AreImplied flat rows = (words : List Word) (numbers : List ℤ) → Satisfies flat words numbers → AreMet (values_of flat words numbers) rows
