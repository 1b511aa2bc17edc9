-- The characters cut into pieces, of which each set of a list holds all characters or none.
use Rattle.std.specs.List.{Any, flat_map}
use Rattle.std.specs.Prelude.{◌≡◌, ◌≢◌, ◌+◌, ◌&&◌, ℕ, false, IsTrue, List, [], ◌∷◌}
use Rattle.sv_word.specs.Ranges.{in_ranges}

-- some set of the list holds the character
abbrev pub IsHeld : List (List (ℕ × ℕ)) → ℕ → Type 0
IsHeld sets c = Any (λ s. IsTrue (in_ranges s c)) sets

-- no character lies in both sets
abbrev pub AreDisjoint : List (ℕ × ℕ) → List (ℕ × ℕ) → Type 0
AreDisjoint s t = (c : ℕ) → (in_ranges s c && in_ranges t c) ≡ false

-- the set holds all characters of the piece or none: two characters of the piece lie in it alike
abbrev pub IsUniformOn : List (ℕ × ℕ) → List (ℕ × ℕ) → Type 0
IsUniformOn piece s = (c d : ℕ) → IsTrue (in_ranges piece c) → IsTrue (in_ranges piece d) → in_ranges s c ≡ in_ranges s d

-- some set of the list holds one of the character and the next one without the other
abbrev pub IsParted : List (List (ℕ × ℕ)) → ℕ → Type 0
IsParted sets c = Any (λ s. in_ranges s c ≢ in_ranges s (c + 1)) sets

-- some set of the list holds the character and the next one
abbrev pub IsPaired : List (List (ℕ × ℕ)) → ℕ → Type 0
IsPaired sets c = Any (λ s. IsTrue (in_ranges s c && in_ranges s (c + 1))) sets

-- where the set begins and where it stops: the first character of each pair, and the one behind its last
abbrev pub borders_of : List (ℕ × ℕ) → List ℕ
borders_of s = flat_map (λ p. p.0 ∷ (p.1 + 1) ∷ []) s
