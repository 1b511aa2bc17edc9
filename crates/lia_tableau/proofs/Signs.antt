-- The signs of what the terms of a line come to at the point of another basis.
use Rattle.std.proofs.Common.{◌≡◌, ◌≢◌, ℤ, pos, neg_ℤ, ◌+ℤ◌, ◌*ℤ◌, ◌≤ℤ◌, ◌<ℤ◌, ⊎_elim, inl, inr, refl, sym, ◌∙◌, subst, arith}
use Rattle.std.proofs.lemmas.Int.{ints, by_lt_z}
use Rattle.sv_linear.specs.Integers.{mul-neg, mul_comm, mul_not_negative, product_positive, cancel_zero, times_zero, zero_times, zero_or}
use Rattle.sv_linear.specs.declared.form.Form.{Form}
use Rattle.lia_tableau.specs.Shown.{Breaks, CanMend}
use Rattle.lia_tableau.specs.declared.bound.QuantityBound.{QuantityBound}
use Rattle.lia_tableau.specs.declared.bound.QuantityBound.TheVariants.{Free, NotNegative, Fixed}

both_negative : (a b : ℤ) → a <ℤ pos 0 → b <ℤ pos 0 → pos 0 ≤ℤ (a *ℤ b)
both_negative a b p q =
    let k = mul_not_negative (neg_ℤ a) (neg_ℤ b) (omega (arith, ints)) (omega (arith, ints)) in
    omega (arith, ints, k, mul-neg (neg_ℤ a) b, mul_comm (neg_ℤ a) b, mul-neg b a, mul_comm b a)

below_above : (a b : ℤ) → a ≤ℤ pos 0 → pos 0 ≤ℤ b → (a *ℤ b) ≤ℤ pos 0
below_above a b p q =
    let k = mul_not_negative (neg_ℤ a) b (omega (arith, ints)) q in
    omega (arith, ints, k, mul_comm (neg_ℤ a) b, mul-neg b a, mul_comm b a)

-- y over d is the value of a quantity whose line holds it `own` times above 0 and has the constant c
pub record ValueBy (own c y d : ℤ) : Type 0 where
  pub own_positive : pos 0 <ℤ own
  pub positive : pos 0 <ℤ d
  pub value : own *ℤ y +ℤ c *ℤ d ≡ pos 0

not_below : (own c y d : ℤ) → ValueBy own c y d → c ≤ℤ pos 0 → pos 0 ≤ℤ y
not_below own c y d v h =
    by_lt_z y (pos 0)
    (λ l. absurd (
    let k = product_positive own (neg_ℤ y) v.own_positive (omega (arith, ints)) in
    let j = below_above c d h (omega (arith, ints, v.positive)) in
    omega (arith, ints, k, j, mul-neg own y, v.value)))
    (λ l. l)

below : (own c y d : ℤ) → ValueBy own c y d → pos 0 <ℤ c → y <ℤ pos 0
below own c y d v h =
    by_lt_z y (pos 0) (λ l. l)
    (λ l. absurd (
    let k = product_positive c d h v.positive in
    let j = mul_not_negative own y (omega (arith, ints, v.own_positive)) l in
    omega (arith, ints, k, j, v.value)))

at_zero : (own c y d : ℤ) → ValueBy own c y d → c ≡ pos 0 → y ≡ pos 0
at_zero own c y d v h = cancel_zero own y v.own_positive (omega (arith, ints, zero_times c d h, v.value))

-- the value of a quantity that keeps its bound
kept_positive : (f : Form) (own y d : ℤ) → ValueBy own f.constant y d → (Breaks NotNegative f → ⊥) → pos 0 ≤ℤ y
kept_positive f own y d v h =
    let low : f.constant ≤ℤ pos 0 = by_lt_z (pos 0) f.constant (λ l. absurd (h l)) (λ l. l) in
    not_below own f.constant y d v low

kept_zero : (f : Form) (own y d : ℤ) → ValueBy own f.constant y d → (Breaks Fixed f → ⊥) → y ≡ pos 0
kept_zero f own y d v h = at_zero own f.constant y d v (⊎_elim (λ l. l) (λ l. absurd (h l)) (zero_or f.constant))

pub through_zero : (c a y : ℤ) → y ≡ pos 0 → pos 0 ≤ℤ (c *ℤ (a *ℤ y))
through_zero c a y e = let z = times_zero c (a *ℤ y) (times_zero a y e) in omega (arith, ints, z)

-- the quantity that went out, where it keeps its bound in the other basis
pub gone_sign : (b : QuantityBound) (f g : Form) (a own y d : ℤ) → pos 0 <ℤ a → Breaks b f → ValueBy own g.constant y d → (Breaks b g → ⊥) → pos 0 ≤ℤ (f.constant *ℤ (a *ℤ y))
gone_sign Free f g a own y d p h v k = absurd h
gone_sign NotNegative f g a own y d p h v k =
    mul_not_negative f.constant (a *ℤ y) (omega (arith, ints, h)) (mul_not_negative a y (omega (arith, ints, p)) (kept_positive g own y d v k))
gone_sign Fixed f g a own y d p h v k = through_zero f.constant a y (kept_zero g own y d v k)

-- a quantity that couldn't mend, and that keeps its bound in the other basis
pub lesser_sign : (b : QuantityBound) (f g : Form) (a own y d : ℤ) → (CanMend b a f.constant → ⊥) → f.constant ≢ pos 0 → ValueBy own g.constant y d → (Breaks b g → ⊥) → pos 0 ≤ℤ (f.constant *ℤ (a *ℤ y))
lesser_sign Free f g a own y d h m v k =
    let none : a ≡ pos 0 = ⊎_elim (λ l. l) (λ l. absurd (h l)) (zero_or a) in
    let z = times_zero f.constant (a *ℤ y) (zero_times a y none) in
    omega (arith, ints, z)
lesser_sign NotNegative f g a own y d h m v k = by_signs f.constant refl (kept_positive g own y d v k)
  where
    by_signs : (c : ℤ) → f.constant ≡ c → pos 0 ≤ℤ y → pos 0 ≤ℤ (c *ℤ (a *ℤ y))
    by_signs c e up =
        by_lt_z (pos 0) c
        (λ over. by_lt_z a (pos 0) (λ l. absurd (h (inl (l, subst (λ w. pos 0 <ℤ w) (sym e) over)))) (λ l. mul_not_negative c (a *ℤ y) (omega (arith, ints, over)) (mul_not_negative a y l up)))
        (λ under.
        let strict : c <ℤ pos 0 = by_lt_z c (pos 0) (λ j. j) (λ j. absurd (m (e ∙ omega (arith, ints, under, j)))) in
        by_lt_z (pos 0) a
        (λ l. absurd (h (inr (l, subst (λ w. w <ℤ pos 0) (sym e) strict))))
        (λ l. let j = below_above a y l up in
        let s = mul_not_negative (neg_ℤ c) (neg_ℤ (a *ℤ y)) (omega (arith, ints, strict)) (omega (arith, ints, j)) in
        omega (arith, ints, s, mul-neg (neg_ℤ c) (a *ℤ y), mul_comm (neg_ℤ c) (a *ℤ y), mul-neg (a *ℤ y) c, mul_comm (a *ℤ y) c)))
lesser_sign Fixed f g a own y d h m v k = through_zero f.constant a y (kept_zero g own y d v k)

-- the quantity that came in, where it breaks its bound in the other basis
pub come_sign : (b : QuantityBound) (f g : Form) (a own y d : ℤ) → CanMend b a f.constant → ValueBy own g.constant y d → Breaks b g → pos 0 ≤ℤ (f.constant *ℤ (a *ℤ y))
come_sign Free f g a own y d h v k = absurd k
come_sign Fixed f g a own y d h v k = absurd h
come_sign NotNegative f g a own y d (inl h) v k =
    mul_not_negative f.constant (a *ℤ y) (omega (arith, ints, h.1)) (both_negative a y h.0 (below own g.constant y d v k))
come_sign NotNegative f g a own y d (inr h) v k =
    let low = below own g.constant y d v k in
    let j = below_above y a (omega (arith, ints, low)) (omega (arith, ints, h.0)) in
    let s = mul_not_negative (neg_ℤ f.constant) (neg_ℤ (a *ℤ y)) (omega (arith, ints, h.1)) (omega (arith, ints, j, mul_comm a y)) in
    omega (arith, ints, s, mul-neg (neg_ℤ f.constant) (a *ℤ y), mul_comm (neg_ℤ f.constant) (a *ℤ y), mul-neg (a *ℤ y) f.constant, mul_comm (a *ℤ y) f.constant)
