-- The columns of rows that aren't 0.
use Rattle.std.specs.Prelude.{◌≡◌, ℕ, ◌+◌, ◌<◌, pos, ℤ, Bool, true, not, List, [], ◌∷◌, ◌++◌, get_or, slice_set, Option, Some, None}
use Rattle.std.specs.List.{list_any}
use Rattle.std.specs.Ordering.{int_eq}
use Rattle.sv_linear.specs.Terms.{coefficient}
use Rattle.sv_linear.specs.declared.row.Row.{Row}

-- the row has a coefficient that isn't 0 at the unknown
abbrev pub has_term : ℕ → List (ℕ × ℤ) → Bool
has_term u ts = not (int_eq (coefficient u ts) (pos 0))

-- some row has one
abbrev pub has_entry : List Row → ℕ → Bool
has_entry rows u = list_any (λ (r : Row). has_term u r.form.coefficients) rows

-- the unknowns of the terms are marked
abbrev pub marked_by : List (ℕ × ℤ) → List Bool → List Bool
marked_by [] xs = xs
marked_by (t ∷ ts) xs = marked_by ts (slice_set xs t.0 true)

-- the terms whose unknowns have numbers, by these numbers behind a base
abbrev pub with_term : ℕ → Option ℕ → ℤ → List (ℕ × ℤ) → List (ℕ × ℤ)
with_term base None c ts = ts
with_term base (Some k) c ts = (base + k, c) ∷ ts

abbrev pub chosen : ℕ → List (Option ℕ) → List (ℕ × ℤ) → List (ℕ × ℤ)
chosen base numbers [] = []
chosen base numbers (t ∷ ts) = with_term base (get_or numbers t.0 None) t.1 (chosen base numbers ts)

-- a later unknown has a greater number
abbrev pub Rises : List (Option ℕ) → Type 0
Rises numbers = (u w k j : ℕ) → u < w → get_or numbers u None ≡ Some k → get_or numbers w None ≡ Some j → k < j

-- each number is below n
abbrev pub AreNumbersWithin : ℕ → List (Option ℕ) → Type 0
AreNumbersWithin n numbers = (u k : ℕ) → get_or numbers u None ≡ Some k → k < n

-- the row over the unknowns that have numbers: those of the integers, and behind them, from base on, those of the registers
pub record IsRenumberedRow (base : ℕ) (integers registers : List (Option ℕ)) (row renumbered : Row) : Type 0 where
  pub kind : renumbered.kind ≡ row.kind
  pub constant : renumbered.form.constant ≡ row.form.constant
  pub coefficients : renumbered.form.coefficients ≡ chosen 0 integers row.form.coefficients ++ chosen base registers row.form.coefficients
