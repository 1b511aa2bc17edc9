-- Small numbers of 128 bits, and the row that fixes a length.
use Rattle.std.proofs.Common.{◌≡◌, ℕ, ◌+◌, ◌^◌, ◌<◌, ◌≤◌, max, ℤ, pos, neg_ℤ, ◌+ℤ◌, ◌-ℤ◌, ◌*ℤ◌, int_lt, unsigned_abs, Bool, true, false, if◌then◌else◌, refl, ap, ◌∙◌, arith, div-one}
use Rattle.std.proofs.lemmas.Int.{ints}
use Rattle.std.specs.Int.{int_div_euclid}
use Rattle.literal_forms.specs.Linear.{minus_one}
use Rattle.cube_bounds.specs.Sides.{values_between, amount}

-- the constant of the row that a length is n
abbrev pub row_constant : ℕ → ℤ
row_constant n = pos 0 +ℤ (pos n *ℤ minus_one)

negative : (n : ℕ) → neg_ℤ (row_constant n) ≡ pos n
negative n = omega (arith, ints)

pub magnitude : (n : ℕ) → unsigned_abs (row_constant n) ≡ n
magnitude n = omega (arith, ints)

-- the greatest length that the row allows
pub upper_is : (n : ℕ) → int_div_euclid (neg_ℤ (row_constant n)) (pos 1) ≡ pos n
upper_is n = ap (λ (z : ℤ). int_div_euclid z (pos 1)) (negative n) ∙ ap (λ (m : ℕ). pos m) (div-one n)

pub values_are : (n : ℕ) → values_between (pos 0, pos n) ≡ n + 1
values_are n = ap (λ (b : Bool). if b then 1 else unsigned_abs (pos n -ℤ pos 0) + 1) not_below ∙ omega (arith, ints)
  where
    by : (b : Bool) → int_lt (pos n) (pos 0) ≡ b → b ≡ false
    by true e = grind (arith, ints)
    by false e = refl

    not_below : int_lt (pos n) (pos 0) ≡ false
    not_below = by (int_lt (pos n) (pos 0)) refl

amount_step : (b : Bool) (n : ℕ) → (if b then 0 else max 0 n) ≤ n
amount_step true n = omega arith
amount_step false n = omega arith

pub amount_is : (n : ℕ) → amount (pos 0, pos n) ≤ n
amount_is n = amount_step (int_lt (pos n) (pos 0)) n

pub below_limit : (n : ℕ) → n ≤ 1000 → n < 2 ^ 127
below_limit n h = omega (arith, h)
