-- Products of whole numbers.
use Rattle.std.proofs.Common.{◌≡◌, ◌≢◌, zero, suc, ◌*◌, ℤ, pos, negsuc, neg_ℤ, ◌+ℤ◌, ◌-ℤ◌, ◌*ℤ◌, ◌≤ℤ◌, ◌<ℤ◌, unsigned_abs, ◌≤◌, ◌⊎◌, ⊎_elim, inl, inr, refl, arith, ap, sym, ◌∙◌}
use Rattle.std.proofs.lemmas.Int.{ints, by_lt_z, unsigned_abs-mul}
use Rattle.std.proofs.lemmas.Bool.{cases_lt}
use Rattle.std.proofs.Math.Nat.{mul-le-mul_left}
use borrow.Author.Differences.{up, down, sum_is_lem, product_is, neg_is}

pub mul_comm : (a b : ℤ) → a *ℤ b ≡ b *ℤ a
mul_comm a b = omega (arith, ints)

pub mul-add : (a b c : ℤ) → a *ℤ (b +ℤ c) ≡ a *ℤ b +ℤ a *ℤ c
mul-add a b c =
    omega (arith, ints, ap (λ n. up a * n) (sum_is_lem b c), ap (λ n. down a * n) (sum_is_lem b c))

pub add-mul : (a b c : ℤ) → (a +ℤ b) *ℤ c ≡ a *ℤ c +ℤ b *ℤ c
add-mul a b c =
    omega (arith, ints, ap (λ n. up c * n) (sum_is_lem a b), ap (λ n. down c * n) (sum_is_lem a b))

pub mul-neg : (a b : ℤ) → a *ℤ neg_ℤ b ≡ neg_ℤ (a *ℤ b)
mul-neg a b = omega (arith, ints, ap (λ n. up a * n) (neg_is b).0, ap (λ n. up a * n) (neg_is b).1, ap (λ n. down a * n) (neg_is b).0, ap (λ n. down a * n) (neg_is b).1)

pub mul_assoc : (a b c : ℤ) → (a *ℤ b) *ℤ c ≡ a *ℤ (b *ℤ c)
mul_assoc a b c =
    omega (
      arith,
      ints,
      ap (λ n. n * up c) (product_is a b).0,
      ap (λ n. n * up c) (product_is a b).1,
      ap (λ n. n * down c) (product_is a b).0,
      ap (λ n. n * down c) (product_is a b).1,
      ap (λ n. up a * n) (product_is b c).0,
      ap (λ n. up a * n) (product_is b c).1,
      ap (λ n. down a * n) (product_is b c).0,
      ap (λ n. down a * n) (product_is b c).1,
    )

pub mul_left_comm : (a b c : ℤ) → a *ℤ (b *ℤ c) ≡ b *ℤ (a *ℤ c)
mul_left_comm a b c = sym (mul_assoc a b c) ∙ ap (λ z. z *ℤ c) (mul_comm a b) ∙ mul_assoc b a c

pub scaled_at_most : (a b : ℤ) → pos 0 ≤ℤ a → b ≤ℤ pos 0 → (a *ℤ b) ≤ℤ pos 0
scaled_at_most a b p q = grind (arith, ints)

pub mul_not_negative : (a b : ℤ) → pos 0 ≤ℤ a → pos 0 ≤ℤ b → pos 0 ≤ℤ (a *ℤ b)
mul_not_negative a b p q = grind (arith, ints)

pub mul_le : (a b c : ℤ) → pos 0 ≤ℤ a → b ≤ℤ c → (a *ℤ b) ≤ℤ (a *ℤ c)
mul_le a b c p q =
    let d : pos 0 ≤ℤ (c -ℤ b) = omega (arith, ints) in
    omega (arith, ints, mul_not_negative a (c -ℤ b) p d, mul-add a c (neg_ℤ b), mul-neg a b)

-- a factor above 0 cancels
pub cancel_zero : (g z : ℤ) → pos 0 <ℤ g → g *ℤ z ≡ pos 0 → z ≡ pos 0
cancel_zero g z p e =
    let m : unsigned_abs g * unsigned_abs z ≡ 0 = sym (unsigned_abs-mul g z) ∙ ap unsigned_abs e in
    let one : 1 ≤ unsigned_abs g = omega (arith, ints) in
    let n : unsigned_abs z ≡ 0 = ⊎_elim (λ l. omega arith) (λ l. absurd (omega (arith, mul-le-mul_left (unsigned_abs g) l))) (cases_lt (unsigned_abs z) 1) in
    omega (arith, ints)

pub cancel_positive : (g z : ℤ) → pos 0 <ℤ g → pos 0 <ℤ (g *ℤ z) → pos 0 <ℤ z
cancel_positive g z p e =
    by_lt_z (pos 0) z (λ h. h)
    (λ h. absurd (let k = mul_le g z (pos 0) (omega (arith, ints)) h in omega (arith, ints)))

pub product_positive : (a b : ℤ) → pos 0 <ℤ a → pos 0 <ℤ b → pos 0 <ℤ (a *ℤ b)
product_positive a b p q =
    let k = mul_le a (pos 1) b (omega (arith, ints)) (omega (arith, ints)) in
    omega (arith, ints)

pub times_zero : (a b : ℤ) → b ≡ pos 0 → a *ℤ b ≡ pos 0
times_zero a b e = ap (λ w. a *ℤ w) e ∙ omega (arith, ints)

pub zero_times : (a b : ℤ) → a ≡ pos 0 → a *ℤ b ≡ pos 0
zero_times a b e = ap (λ w. w *ℤ b) e ∙ omega (arith, ints)

pub neg-mul : (a b : ℤ) → neg_ℤ a *ℤ b ≡ neg_ℤ (a *ℤ b)
neg-mul a b = mul_comm (neg_ℤ a) b ∙ mul-neg b a ∙ ap neg_ℤ (mul_comm b a)

pub zero_or : (z : ℤ) → (z ≡ pos 0) ⊎ (z ≢ pos 0)
zero_or (pos zero) = inl refl
zero_or (pos (suc n)) = inr (λ e. omega (arith, ints))
zero_or (negsuc n) = inr (λ e. omega (arith, ints))

pub square_positive : (c : ℤ) → c ≢ pos 0 → pos 0 <ℤ (c *ℤ c)
square_positive c n =
    by_lt_z (pos 0) c (λ h. product_positive c c h h)
    (λ h. let m : pos 0 <ℤ neg_ℤ c = by_lt_z (pos 0) (neg_ℤ c) (λ k. k) (λ k. absurd (n (omega (arith, ints)))) in
    omega (arith, ints, product_positive (neg_ℤ c) (neg_ℤ c) m m, mul-neg (neg_ℤ c) c, mul_comm (neg_ℤ c) c, mul-neg c c))
