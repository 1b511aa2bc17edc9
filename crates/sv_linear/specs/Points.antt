-- A coefficient is the value at the point that is 1 at its unknown.
use Rattle.std.proofs.Common.{◌≡◌, ℕ, ℤ, pos, ◌+ℤ◌, ◌*ℤ◌, List, [], ◌∷◌, Bool, true, false, cond, eqb, refl, arith}
use Rattle.std.specs.Prelude.{nat_eq, if◌then◌else◌}
use Rattle.std.proofs.lemmas.Int.{ints}
use Rattle.sv_linear.specs.Terms.{terms_value, coefficient}

-- 1 at the unknown u, and 0 elsewhere
abbrev pub unit : ℕ → ℕ → ℤ
unit u v = if nat_eq v u then pos 1 else pos 0

unit_step : (z w : ℤ) (b : Bool) → cond b z (pos 0) +ℤ w ≡ z *ℤ cond b (pos 1) (pos 0) +ℤ w
unit_step z w true = omega (arith, ints)
unit_step z w false = omega (arith, ints)

pub coefficient_is_value : (u : ℕ) (ts : List (ℕ × ℤ)) → coefficient u ts ≡ terms_value (unit u) ts
coefficient_is_value u [] = refl
coefficient_is_value u (t ∷ ts) = rw (coefficient_is_value u ts) (unit_step t.1 (terms_value (unit u) ts) (eqb t.0 u))

-- 0 everywhere
abbrev pub nowhere : ℕ → ℤ
nowhere v = pos 0

pub value_nowhere : (ts : List (ℕ × ℤ)) → terms_value nowhere ts ≡ pos 0
value_nowhere [] = refl
value_nowhere (t ∷ ts) = omega (arith, ints, value_nowhere ts)
