-- Tables of the words in which a pattern occurs, or with which they end: the failure automaton of Knuth, Morris and Pratt.
use Rattle.std.specs.Prelude.{◌≡◌, ℕ, ◌+◌, ◌<◌, ◌⊎◌, Bool, true, false, List, [], ◌∷◌, length, reverse}
use Rattle.sv_terms.specs.Language.{Word}
use Rattle.sv_terms.specs.Replacement.{begins, occurs}
use Rattle.replace_machines.specs.Borders.{IsNext, IsFailure}
use Rattle.replace_machines.specs.Rows.{at}
use Rattle.part_machines.specs.Tables.{leg, row_of, next}
use Rattle.part_machines.specs.declared.table.TableLeg.{TableLeg}
use Rattle.part_machines.specs.declared.table.TableRow.{TableRow}

-- the pattern occurs in the word, or with false, the word ends with it
abbrev pub finds : Bool → Word → Word → Bool
finds true p w = occurs p w
finds false p w = begins (reverse p) (reverse w)

-- each of some characters alone leads to its state, and all others to 0
abbrev pub spread : List (ℕ × ℕ) → List TableLeg
spread [] = []
spread (p ∷ row) = leg p.0 0 ∷ leg (p.0 + 1) p.1 ∷ spread row

abbrev pub spread_row : List (ℕ × ℕ) → TableRow
spread_row row = row_of (spread row) 0

-- where a character leads once the whole pattern stands: nowhere else where it stays, and else as from the longest shorter border
abbrev pub NextOfWhole : Bool → Word → ℕ → ℕ → Type 0
NextOfWhole true p c t = t ≡ length p
NextOfWhole false p c t = ((length p ≡ 0) × (t ≡ 0)) ⊎ ((m : ℕ) × IsFailure (at p) (length p) m × IsNext (at p) m c t)

-- one state for each beginning of the pattern, or all but the last, the whole pattern, where that must not occur
abbrev pub AreStatesNeeded : Bool → Bool → ℕ → ℕ → Type 0
AreStatesNeeded stays holds count states = (states ≡ count + 1) ⊎ ((stays ≡ true) × (holds ≡ false) × (0 < count) × (states ≡ count))

-- one row for each beginning of the pattern, by its length
pub record ArePatternRows (stays : Bool) (p : Word) (rows : List TableRow) : Type 0 where
  pub size : length rows ≡ length p + 1
  pub part : (q c : ℕ) → q < length p → IsNext (at p) q c (next rows q c)
  pub whole : (c : ℕ) → NextOfWhole stays p c (next rows (length p) c)
