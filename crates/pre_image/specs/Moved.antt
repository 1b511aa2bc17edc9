-- Pairs of characters.
use Rattle.std.specs.Prelude.{ℕ, ◌≤◌, List}
use Rattle.std.specs.List.{AllByRecursion}
use Rattle.sv_word.specs.Words.{greatest_character}

-- the second of each pair is a character
abbrev pub AreCharacters : List (ℕ × ℕ) → Type 0
AreCharacters pairs = AllByRecursion (λ (p : ℕ × ℕ). p.1 ≤ greatest_character) pairs
