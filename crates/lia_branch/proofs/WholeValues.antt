-- The whole number at or below a value.
use Rattle.std.proofs.Common.{◌≡◌, ◌≢◌, ℕ, suc, ◌+◌, ◌-◌, ◌*◌, ◌/◌, ◌%◌, ◌<◌, ◌^◌, ℤ, pos, negsuc, neg_ℤ, ◌+ℤ◌, ◌-ℤ◌, ◌*ℤ◌, ◌≤ℤ◌, ◌<ℤ◌, List, length, FitsSigned, ⊎_elim, ap, sym, ◌∙◌, subst, arith}
use Rattle.std.specs.Int.{w128, int_div_euclid, int_rem_euclid}
use Rattle.std.proofs.lemmas.Int.{ints, by_lt_z}
use Rattle.sv_linear.specs.Terms.{coefficient}
use Rattle.sv_linear.specs.Integers.{add-mul, mul-neg, mul_assoc, mul_comm, mul_le, cancel_zero}
use Rattle.sv_linear.specs.declared.row.Row.{Row}
use Rattle.lia_tableau.specs.BasicPoints.{IsValueAt}
use Rattle.lia_tableau.specs.declared.standing.Standing.{Standing}
use Rattle.lia_branch.specs.DueSplits.{IsWholeAt}
use Rattle.lia_branch.specs.Founds.{IsFractionAt}
use Rattle.lia_tableau.specs.Bases.{IsTableau}
use Rattle.lia_tableau.specs.LineLaws.{standing_of}
use Rattle.lia_tableau.specs.PointLaws.{cancelled}

-- z is q times d and a rest from 0 to d - 1
pub record IsEuclid (z d q r : ℤ) : Type 0 where
  pub sum : z ≡ q *ℤ d +ℤ r
  pub low : pos 0 ≤ℤ r
  pub high : r <ℤ d

quotient_up : (a n : ℕ) → 0 < n → suc (a / n) * n ≡ suc a + (n - 1 - a % n)
quotient_up a n p = omega arith

pub euclid : (z d : ℤ) → pos 0 <ℤ d → IsEuclid z d (int_div_euclid z d) (int_rem_euclid z d)
euclid z (negsuc n) p = absurd (omega (arith, ints))
euclid (pos a) (pos n) p =
    let q : 0 < n = omega (arith, ints) in
    record { sum = omega (arith, ints); low = omega (arith, ints); high = omega (arith, ints) }
euclid (negsuc a) (pos n) p =
    let q : 0 < n = omega (arith, ints) in
    let u = quotient_up a n q in
    record { sum = omega (arith, ints, u); low = omega (arith, ints); high = omega (arith, ints) }

value_over : (lines : List Standing) (u : ℕ) (z d q : ℤ) → pos 0 <ℤ d → IsValueAt lines u z d → z ≡ q *ℤ d → IsValueAt lines u q (pos 1)
value_over lines u z d q p v e = record {
  outside = λ o. cancel_zero d q p (mul_comm d q ∙ sym e ∙ v.outside o);
  basic = λ f l.
      let own = coefficient u f.form.coefficients in
      let c = f.form.constant in
      let a : (own *ℤ q +ℤ c *ℤ pos 1) *ℤ d ≡ pos 0 =
      (let one : c *ℤ pos 1 ≡ c = omega (arith, ints) in
      add-mul (own *ℤ q) (c *ℤ pos 1) d ∙ omega (arith, ints, mul_assoc own q d, ap (λ w. own *ℤ w) e, ap (λ w. w *ℤ d) one, v.basic f l)) in
      cancel_zero d (own *ℤ q +ℤ c *ℤ pos 1) p (mul_comm d (own *ℤ q +ℤ c *ℤ pos 1) ∙ a);
}

pub whole_at : (lines : List Standing) (u : ℕ) (z d q r : ℤ) → pos 0 <ℤ d → IsValueAt lines u z d → IsEuclid z d q r → r ≡ pos 0 → IsWholeAt lines u
whole_at lines u z d q r p v e n = (q, value_over lines u z d q p v (omega (arith, ints, e.sum, n)))

at_half : (z d q r : ℤ) → FitsSigned w128 z → IsEuclid z d q r → pos 0 <ℤ r → (q <ℤ pos (2 ^ 126)) × (neg_ℤ (pos (2 ^ 126)) ≤ℤ q)
at_half z d q r f e n = (
  by_lt_z q (pos (2 ^ 126)) (λ h. h)
      (λ h. absurd (let k = mul_le q (pos 2) d (omega (arith, ints, h)) (let a = e.high in omega (arith, ints)) in omega (arith, ints, k, h, e.sum, f, n))),
  by_lt_z q (neg_ℤ (pos (2 ^ 126)))
      (λ h. absurd (
      let m = neg_ℤ (q +ℤ pos 1) in
      let k = mul_le m (pos 2) d (omega (arith, ints, h)) (let a = e.high in omega (arith, ints)) in
      let c : m *ℤ d ≡ neg_ℤ ((q +ℤ pos 1) *ℤ d) = mul_comm m d ∙ mul-neg d (q +ℤ pos 1) ∙ ap neg_ℤ (mul_comm d (q +ℤ pos 1)) in
      omega (arith, ints, k, c, h, e.sum, e.high, f, add-mul q (pos 1) d)))
      (λ h. h),
)

pub fraction_of : (lines : List Standing) (u : ℕ) (z d q r : ℤ) → pos 0 <ℤ d → IsValueAt lines u z d → FitsSigned w128 z → IsEuclid z d q r → r ≢ pos 0 → IsFractionAt lines u q
fraction_of lines u z d q r p v f e n =
    let above : pos 0 <ℤ r = by_lt_z (pos 0) r (λ h. h) (λ h. absurd (n (let l = e.low in omega (arith, ints)))) in
    let half = at_half z d q r f e above in
    record {
      between = record {
        z = z;
        d = d;
        positive = p;
        value = v;
        above = omega (arith, ints, e.sum, above);
        below = omega (arith, ints, e.sum, e.high, add-mul q (pos 1) d);
      };
      symmetric = omega (arith, ints, half.0, half.1);
      next_symmetric = omega (arith, ints, half.0, half.1);
    }

same_quotient : (k q r d : ℤ) → pos 0 <ℤ d → k *ℤ d ≡ q *ℤ d +ℤ r → pos 0 ≤ℤ r → r <ℤ d → k ≡ q
same_quotient k q r d p e l h =
    by_lt_z k q
    (λ a. absurd (let m = mul_le d k (q -ℤ pos 1) (omega (arith, ints, p)) (omega (arith, ints, a)) in
    omega (arith, ints, m, e, l, mul_comm d k, mul_comm d (q -ℤ pos 1), add-mul q (neg_ℤ (pos 1)) d, p)))
    (λ a. by_lt_z q k
    (λ b. absurd (let m = mul_le d (q +ℤ pos 1) k (omega (arith, ints, p)) (omega (arith, ints, b)) in
    omega (arith, ints, m, e, h, mul_comm d k, mul_comm d (q +ℤ pos 1), add-mul q (pos 1) d)))
    (λ b. omega (arith, ints, a, b)))

pub whole_quotient : (n : ℕ) (rows : List Row) (lines : List Standing) (t : IsTableau n rows lines) (u : ℕ) (z d q r : ℤ) → u < length lines → pos 0 <ℤ d → IsValueAt lines u z d → IsEuclid z d q r → IsWholeAt lines u → IsValueAt lines u q (pos 1)
whole_quotient n rows lines t u z d q r h p v e w =
    let k = w.0 in
    let scaled : z ≡ k *ℤ d =
    ⊎_elim
    (λ o. let a = w.1.outside o in let b = v.outside o in let y = ap (λ i. i *ℤ d) a in omega (arith, ints, b, y))
    (λ l. cancelled (coefficient u l.0.form.coefficients) k z l.0.form.constant d (t.line u l.0 l.1).own (w.1.basic l.0 l.1) (v.basic l.0 l.1))
    (standing_of lines u h) in
    subst (λ i. IsValueAt lines u i (pos 1)) (same_quotient k q r d p (sym scaled ∙ e.sum) e.low e.high) w.1
