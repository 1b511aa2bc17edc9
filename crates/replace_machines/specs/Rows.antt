-- What each state does: its row lists the characters that lead to a state other than 0.
use Rattle.std.specs.Prelude.{◌≡◌, ℕ, suc, ◌≤◌, ◌⊎◌, nat_eq, nat_lt, if◌then◌else◌, List, [], ◌∷◌, get_or, slice_get, Some}
use Rattle.replace_machines.specs.Borders.{IsNext, IsFailure}
use Rattle.sv_word.specs.Words.{greatest_character}

-- the character of the pattern at a place
abbrev pub at : List ℕ → ℕ → ℕ
at pattern i = get_or pattern i 0

-- the state that a row has for a character; 0 where it has none
abbrev pub target : List (ℕ × ℕ) → ℕ → ℕ
target [] c = 0
target (p ∷ row) c = if nat_eq p.0 c then p.1 else target row c

-- the row with this state for the character
abbrev pub put : ℕ → ℕ → List (ℕ × ℕ) → List (ℕ × ℕ)
put c to [] = (c, to) ∷ []
put c to (p ∷ row) = if nat_lt p.0 c then (p ∷ put c to row) else (if nat_eq p.0 c then (c, to) ∷ row else ((c, to) ∷ (p ∷ row)))

-- its characters ascend, from `low` on
abbrev pub Ascends : ℕ → List (ℕ × ℕ) → Type 0
Ascends low [] = Unit {0}
Ascends low (p ∷ row) = (low ≤ p.0) × (p.0 ≤ greatest_character) × Ascends (suc p.0) row

-- the row of the state that holds the first q characters of the pattern
pub record IsMatchRow (pattern : List ℕ) (q : ℕ) (row : List (ℕ × ℕ)) : Type 0 where
  pub ascends : Ascends 0 row
  pub next : (c : ℕ) → IsNext (at pattern) q c (target row c)

-- one row for each proper beginning of the pattern
pub record AreMatchRows (pattern : List ℕ) (rows : List (List (ℕ × ℕ))) : Type 0 where
  pub row : (q : ℕ) (r : List (ℕ × ℕ)) → slice_get rows q ≡ Some r → IsMatchRow pattern q r

-- the length of the longest shorter border of the first q characters; 0 where there are none
abbrev pub IsBorderOf : List ℕ → ℕ → ℕ → Type 0
IsBorderOf pattern q m = ((q ≡ 0) × (m ≡ 0)) ⊎ IsFailure (at pattern) q m
