-- Words that have a character of each of some ranges in turn.
use Rattle.std.specs.Prelude.{ℕ, ◌+◌, ◌≤◌, Bool, true, false, ◌&&◌, if◌then◌else◌, List, [], ◌∷◌, map}
use Rattle.std.specs.List.{AllByRecursion}
use Rattle.sv_word.specs.Words.{greatest_character}
use Rattle.sv_word.specs.Ranges.{in_pair}
use Rattle.sv_terms.specs.Language.{Word}
use Rattle.part_machines.specs.Tables.{leg, row_of}
use Rattle.part_machines.specs.declared.table.TableRow.{TableRow}

-- the word has a character of each range in turn; behind them it stops, or where it may be longer, goes on with any
abbrev pub follows : Bool → List (ℕ × ℕ) → Word → Bool
follows longer [] [] = true
follows longer [] (c ∷ w) = longer
follows longer (r ∷ ranges) [] = false
follows longer (r ∷ ranges) (c ∷ w) = in_pair r c && follows longer ranges w

-- the borders of each range are characters
abbrev pub AreRanges : List (ℕ × ℕ) → Type 0
AreRanges ranges = AllByRecursion (λ (r : ℕ × ℕ). (r.0 ≤ greatest_character) × (r.1 ≤ greatest_character)) ranges

-- each character alone
abbrev pub ranges_of : Word → List (ℕ × ℕ)
ranges_of w = map (λ c. (c, c)) w

-- the row of the state `s`: on the characters of the range to the next state, and on others to the state `lost`
abbrev pub chain_row : ℕ → ℕ → ℕ × ℕ → TableRow
chain_row lost s r = row_of (leg r.0 lost ∷ leg (r.1 + 1) (s + 1) ∷ []) lost

-- the rows from the state `s` on, for the ranges that are left: behind them the word may go on there, or it is lost; what is lost stays so
abbrev pub chain_rows : Bool → ℕ → ℕ → List (ℕ × ℕ) → List TableRow
chain_rows longer lost s [] = row_of [] (if longer then s else lost) ∷ row_of [] lost ∷ []
chain_rows longer lost s (r ∷ ranges) = chain_row lost s r ∷ chain_rows longer lost (s + 1) ranges
