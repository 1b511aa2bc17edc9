-- Two ascending lists of terms, read side by side.
use Rattle.std.specs.Prelude.{ℕ, ℤ, pos, List, [], ◌∷◌, Option, Some, None, min, nat_eq, if◌then◌else◌}

-- the least unknown of two ascending lists
abbrev pub least_unknown : List (ℕ × ℤ) → List (ℕ × ℤ) → Option ℕ
least_unknown [] [] = None
least_unknown [] (s ∷ ss) = Some s.0
least_unknown (t ∷ ts) [] = Some t.0
least_unknown (t ∷ ts) (s ∷ ss) = Some (min t.0 s.0)

-- the coefficient of the first term where that is the unknown's, else 0
abbrev pub front_coefficient : ℕ → List (ℕ × ℤ) → ℤ
front_coefficient u [] = pos 0
front_coefficient u (t ∷ ts) = if nat_eq t.0 u then t.1 else pos 0

-- the terms behind it
abbrev pub behind : ℕ → List (ℕ × ℤ) → List (ℕ × ℤ)
behind u [] = []
behind u (t ∷ ts) = if nat_eq t.0 u then ts else t ∷ ts
