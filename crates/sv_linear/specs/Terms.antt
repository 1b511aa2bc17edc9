-- The terms of a linear form: pairs of an unknown's number and its coefficient.
use Rattle.std.specs.Prelude.{ℕ, ℤ, pos, ◌+◌, ◌<◌, ◌≤◌, ◌+ℤ◌, ◌*ℤ◌, List, [], ◌∷◌, unsigned_abs, nat_eq, if◌then◌else◌}
use Rattle.std.specs.Coded.{×_prop, le_prop}

-- the sum of the coefficients times the values of their unknowns
abbrev pub terms_value : (ℕ → ℤ) → List (ℕ × ℤ) → ℤ
terms_value x [] = pos 0
terms_value x (t ∷ ts) = t.1 *ℤ x t.0 +ℤ terms_value x ts

-- the sum of the coefficients that stand at an unknown: 0 where it has none
abbrev pub coefficient : ℕ → List (ℕ × ℤ) → ℤ
coefficient u [] = pos 0
coefficient u (t ∷ ts) = (if nat_eq t.0 u then t.1 else pos 0) +ℤ coefficient u ts

-- the unknowns ascend from low on and stay below high, and no coefficient is 0
abbrev pub AscendsWithin : ℕ → ℕ → List (ℕ × ℤ) → Type 0
AscendsWithin low high [] = low ≤ high
AscendsWithin low high (t ∷ ts) = (low ≤ t.0) × ((0 < unsigned_abs t.1) × AscendsWithin (t.0 + 1) high ts)

pub AscendsWithin-prop : (low high : ℕ) (ts : List (ℕ × ℤ)) → IsProp (AscendsWithin low high ts)
AscendsWithin-prop low high [] = le_prop
AscendsWithin-prop low high (t ∷ ts) = ×_prop le_prop (×_prop le_prop (AscendsWithin-prop (t.0 + 1) high ts))
