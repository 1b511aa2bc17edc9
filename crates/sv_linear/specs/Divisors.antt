-- Divisors of whole numbers, and of all numbers of a form.
use Rattle.std.specs.Prelude.{◌≡◌, ℕ, ℤ, pos, ◌*ℤ◌, ◌≤◌, ◌<◌, unsigned_abs, All, List}
use Rattle.std.specs.Int.{◌∣◌}
use Rattle.sv_linear.specs.Forms.{form_value}
use Rattle.sv_linear.specs.declared.form.Form.{Form}

-- a whole number times d is z
abbrev pub Divides : ℤ → ℤ → Type 0
Divides d z = (k : ℤ) × (z ≡ d *ℤ k)

-- d divides a constant and each coefficient
pub record DividesAll (d : ℕ) (constant : ℤ) (terms : List (ℕ × ℤ)) : Type 0 where
  pub of_constant : d ∣ unsigned_abs constant
  pub of_terms : All (λ t. d ∣ unsigned_abs t.1) terms

-- the greatest common divisor of a constant and the coefficients: 0 where all are 0
pub record IsContent (constant : ℤ) (terms : List (ℕ × ℤ)) (g : ℕ) : Type 0 where
  pub divides : DividesAll g constant terms
  pub greatest : (d : ℕ) → DividesAll d constant terms → d ∣ g

-- f is a number above 0 times r, and no number above 1 divides r, unless r is the zero form
pub record IsPrimitiveOf (f r : Form) : Type 0 where
  pub factor : ℕ
  pub positive : 0 < factor
  pub value : (x : ℕ → ℤ) (d : ℤ) → form_value x d f ≡ pos factor *ℤ form_value x d r
  pub primitive : (g : ℕ) → IsContent r.constant r.coefficients g → g ≤ 1
