-- The words of one character.
use Rattle.std.specs.Prelude.{◌≡◌, ℕ, IsTrue, List, [], ◌∷◌}
use Rattle.sv_word.specs.Ranges.{in_ranges}
use Rattle.sv_terms.specs.Language.{Word}

-- the words of one of these characters
abbrev pub OneOf : List (ℕ × ℕ) → Word → Type 0
OneOf on w = (c : ℕ) × IsTrue (in_ranges on c) × (w ≡ c ∷ [])
