-- Words: lists of characters (theory UnicodeStrings of SMT-LIB 2.6).
use Rattle.std.specs.Prelude.{ℕ, ◌≤◌, ⊤, List, [], ◌∷◌}

-- the greatest character
abbrev pub greatest_character : ℕ
greatest_character = 0x2FFFF

-- each character is from 0 to the greatest one
abbrev pub IsWord : List ℕ → Type 0
IsWord [] = ⊤
IsWord (c ∷ w) = (c ≤ greatest_character) × IsWord w
