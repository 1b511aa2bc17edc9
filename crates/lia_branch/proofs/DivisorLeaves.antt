-- The line that shows a divisor gives a leaf.
use Rattle.std.proofs.Common.{◌≡◌, ◌≢◌, ℕ, zero, ◌+◌, ◌-◌, ◌<◌, ◌≤◌, ◌^◌, ℤ, pos, neg_ℤ, ◌+ℤ◌, ◌-ℤ◌, ◌*ℤ◌, List, [], ◌∷◌, length, get_or, Bool, true, false, cond, IsTrue, nat_lt, unsigned_abs, ⊎_elim, refl, ap, sym, ◌∙◌, subst, arith}
use Rattle.std.specs.Int.{int_div_euclid, int_rem_euclid, ◌∣◌}
use Rattle.std.proofs.lemmas.Int.{ints, unsigned_abs-mul}
use Rattle.std.proofs.lemmas.Bool.{cases_lt}
use Rattle.std.proofs.lemmas.Bool.Decides.{nat_tests}
use Rattle.std.proofs.Math.Nat.{dvd-mul_right}
use Rattle.sv_linear.specs.Terms.{coefficient, terms_value, AscendsWithin}
use Rattle.sv_linear.specs.Forms.{form_value}
use Rattle.sv_linear.specs.Points.{unit, nowhere, coefficient_is_value, value_nowhere}
use Rattle.sv_linear.specs.Divisors.{Divides}
use Rattle.sv_linear.specs.Quotients.{quotient}
use Rattle.sv_linear.specs.Integers.{mul-add, add-mul, mul-neg, mul_assoc, mul_comm}
use Rattle.sv_linear.specs.declared.row.Row.{Row}
use Rattle.farkas_check.specs.Systems.{Constraint, no_constraint, is_equation}
use Rattle.farkas_check.specs.Closings.{combined, coefficient_of, constant_of, OfEquations, DivisorRule}
use Rattle.lia_tableau.specs.Bases.{IsLine, IsTableau}
use Rattle.lia_tableau.specs.Shown.{ShowsDivisor}
use Rattle.lia_tableau.specs.declared.standing.Standing.{Standing}
use Rattle.lia_branch.specs.Nodes.{IsRowOf}
use Rattle.lia_branch.specs.LeafMultipliers.{slack_multipliers, slack_remainders, unknown_terms, AreRowsOf}
use Rattle.lia_branch.proofs.LeafSums.{line_sum, slack_row}
use Rattle.lia_branch.proofs.WholeValues.{euclid}
use Rattle.lia_tableau.specs.LineLaws.{held, extended, extended_low}
use Rattle.lia_tableau.proofs.Soundness.{divided}
use Rattle.sv_linear.specs.TermLaws.{term_here, EachTerm, rest_of}
use Rattle.sv_linear.specs.Rows.{NameUnknowns}

-- the sums differ by a multiple
differ : (V : Constraint → ℤ) (cs : List Constraint) (n d : ℕ) → 0 < d → (ts : List (ℕ × ℤ)) → Divides (pos d) (combined V cs (slack_multipliers n (pos 1) ts) -ℤ combined V cs (slack_remainders n (pos d) ts))
differ V cs n d p [] = (pos 0, omega (arith, ints))
differ V cs n d p (t ∷ ts) = by (nat_lt t.0 n) (differ V cs n d p ts)
  where
    by : (b : Bool) → Divides (pos d) (combined V cs (slack_multipliers n (pos 1) ts) -ℤ combined V cs (slack_remainders n (pos d) ts)) →
        Divides (pos d) (combined V cs (cond b (slack_multipliers n (pos 1) ts) ((t.0 - n, pos 1 *ℤ t.1) ∷ slack_multipliers n (pos 1) ts)) -ℤ combined V cs (cond b (slack_remainders n (pos d) ts) ((t.0 - n, int_rem_euclid t.1 (pos d)) ∷ slack_remainders n (pos d) ts)))
    by true h = h
    by false h =
        let v = V (get_or cs (t.0 - n) no_constraint) in
        let q = int_div_euclid t.1 (pos d) in
        let r = int_rem_euclid t.1 (pos d) in
        let e = (euclid t.1 (pos d) (omega (arith, ints, p))).sum in
        let one : pos 1 *ℤ t.1 ≡ t.1 = omega (arith, ints) in
        let a = ap (λ w. w *ℤ v) (one ∙ e) ∙ add-mul (q *ℤ pos d) r v in
        let m = ap (λ w. w *ℤ v) (mul_comm q (pos d)) ∙ mul_assoc (pos d) q v in
        (q *ℤ v +ℤ h.0, omega (arith, ints, a, m, h.1, mul-add (pos d) (q *ℤ v) h.0))

pub of_equations : (n d : ℕ) (cs : List Constraint) (low high : ℕ) (ts : List (ℕ × ℤ)) → AscendsWithin low high ts → EachTerm (λ t. n ≤ t.0 → (t.0 - n < length cs) × IsTrue (get_or cs (t.0 - n) no_constraint).equal) ts →
    OfEquations (low - n) cs (slack_remainders n (pos d) ts)
of_equations n d cs low high [] a h = tt
of_equations n d cs low high (t ∷ ts) a h = by (nat_lt t.0 n) refl (of_equations n d cs (t.0 + 1) high ts a.1.1 (rest_of (λ s. n ≤ s.0 → (s.0 - n < length cs) × IsTrue (get_or cs (s.0 - n) no_constraint).equal) t ts h))
  where
    by : (b : Bool) → nat_lt t.0 n ≡ b → OfEquations ((t.0 + 1) - n) cs (slack_remainders n (pos d) ts) →
        OfEquations (low - n) cs (cond b (slack_remainders n (pos d) ts) ((t.0 - n, int_rem_euclid t.1 (pos d)) ∷ slack_remainders n (pos d) ts))
    by true e r =
        let under : t.0 < n = grind (arith, nat_tests) in
        let front = a.0 in
        let same : (t.0 + 1) - n ≡ low - n = omega arith in
        subst (λ k. OfEquations k cs (slack_remainders n (pos d) ts)) same r
    by false e r =
        let high_enough : n ≤ t.0 = grind (arith, nat_tests) in
        let front = a.0 in
        let same : (t.0 + 1) - n ≡ (t.0 - n) + 1 = omega arith in
        let well = h zero t refl high_enough in
        (omega arith, (well.0, (well.1, subst (λ k. OfEquations k cs (slack_remainders n (pos d) ts)) same r)))

-- the unknowns' part of the line is a multiple at whole values
unknowns_multiple : (n d : ℕ) → 0 < d → (x : ℕ → ℤ) (ts : List (ℕ × ℤ)) → EachTerm (λ t. t.0 < n → d ∣ unsigned_abs t.1) ts → Divides (pos d) (terms_value x (unknown_terms n ts))
unknowns_multiple n d p x [] h = (pos 0, omega (arith, ints))
unknowns_multiple n d p x (t ∷ ts) h = by (nat_lt t.0 n) refl (unknowns_multiple n d p x ts (rest_of (λ s. s.0 < n → d ∣ unsigned_abs s.1) t ts h))
  where
    by : (b : Bool) → nat_lt t.0 n ≡ b → Divides (pos d) (terms_value x (unknown_terms n ts)) → Divides (pos d) (terms_value x (cond b (t ∷ unknown_terms n ts) (unknown_terms n ts)))
    by true e r =
        let z = divided d p t.1 (h zero t refl (grind (arith, nat_tests))) in
        (quotient t.1 d *ℤ x t.0 +ℤ r.0, omega (arith, ints, ap (λ w. w *ℤ x t.0) z, mul_assoc (pos d) (quotient t.1 d) (x t.0), r.1, mul-add (pos d) (quotient t.1 d *ℤ x t.0) r.0))
    by false e r = r

unknowns_nothing : (n : ℕ) (x : ℕ → ℤ) → ((u : ℕ) → u < n → x u ≡ pos 0) → (ts : List (ℕ × ℤ)) → terms_value x (unknown_terms n ts) ≡ pos 0
unknowns_nothing n x h [] = refl
unknowns_nothing n x h (t ∷ ts) = by (nat_lt t.0 n) refl (unknowns_nothing n x h ts)
  where
    by : (b : Bool) → nat_lt t.0 n ≡ b → terms_value x (unknown_terms n ts) ≡ pos 0 → terms_value x (cond b (t ∷ unknown_terms n ts) (unknown_terms n ts)) ≡ pos 0
    by true e r = let z = ap (λ w. t.1 *ℤ w) (h t.0 (grind (arith, nat_tests))) in omega (arith, ints, z, r)
    by false e r = r

back : (d : ℕ) (z : ℤ) → Divides (pos d) z → d ∣ unsigned_abs z
back d z h = subst (λ w. d ∣ w) (sym (ap unsigned_abs h.1 ∙ unsigned_abs-mul (pos d) h.0)) (dvd-mul_right d (unsigned_abs h.0))

module _ (n : ℕ) (rows : List Row) (lines : List Standing) (t : IsTableau n rows lines) (w : NameUnknowns n rows) (q : ℕ) (f : Row) (l : IsLine lines q f)
    (k : ShowsDivisor n rows f.form) (cs : List Constraint) (are : AreRowsOf cs rows) where
  in_range : EachTerm (λ s. s.0 < length lines) f.form.coefficients
  in_range i s e = ⊎_elim (λ h. h) (λ h. absurd (held f i s e ((t.line q f l).within s.0 h))) (cases_lt s.0 (length lines))

  above : 0 < k.divisor
  above = let a = k.at_least_two in omega arith

  equations : EachTerm (λ s. n ≤ s.0 → (s.0 - n < length cs) × IsTrue (get_or cs (s.0 - n) no_constraint).equal) f.form.coefficients
  equations i s e high =
      let row = slack_row n rows lines t w q f l cs are s.0 high (in_range i s e) in
      let size = t.size in
      let sizes = are.size in
      let range = in_range i s e in
      let place : n + (s.0 - n) ≡ s.0 = omega arith in
      let kind = k.equations (s.0 - n) row.row row.is_row (subst (λ u. coefficient u f.form.coefficients ≢ pos 0) (sym place) (held f i s e)) in
      let same : is_equation row.row.kind ≡ (get_or cs (s.0 - n) no_constraint).equal = row.means.kind ∙ sym (ap (λ (c : Constraint). c.equal) row.same) in
      (omega arith, subst (λ b. IsTrue b) same (subst (λ m. IsTrue (is_equation m)) (sym kind) refl))

  unknowns : EachTerm (λ s. s.0 < n → k.divisor ∣ unsigned_abs s.1) f.form.coefficients
  unknowns i s e low =
      let here = term_here 0 (2 ^ 32) f.form.coefficients i s f.form.ascending e in
      subst (λ z. k.divisor ∣ unsigned_abs z) here.is (k.is_divisor.divides s.0 low)

  abbrev sums : (Constraint → ℤ) → ℤ
  sums V = combined V cs (slack_remainders n (pos k.divisor) f.form.coefficients)

  exact : (V : Constraint → ℤ) (base : ℕ → ℤ) (d : ℤ) → ((c : Constraint) (r : Row) → IsRowOf c r → V c ≡ form_value base d r.form) →
      combined V cs (slack_multipliers n (pos 1) f.form.coefficients) ≡ terms_value (extended n rows base d) (unknown_terms n f.form.coefficients) +ℤ f.form.constant *ℤ d
  exact V base d agrees = line_sum n rows lines t w q f l cs are in_range V base d agrees (pos 1) ∙ omega (arith, ints)

  divides_at : (u : ℕ) → Divides (pos k.divisor) (sums (coefficient_of u))
  divides_at u =
      let e = exact (coefficient_of u) (unit u) (pos 0) (λ c r m. coefficient_is_value u c.terms ∙ sym (m.value (unit u)) ∙ omega (arith, ints)) in
      let a = differ (coefficient_of u) cs n k.divisor above f.form.coefficients in
      let b = unknowns_multiple n k.divisor above (extended n rows (unit u) (pos 0)) f.form.coefficients unknowns in
      (b.0 -ℤ a.0, (let m = mul-add (pos k.divisor) b.0 (neg_ℤ a.0) in let g = mul-neg (pos k.divisor) a.0 in let s : b.0 -ℤ a.0 ≡ b.0 +ℤ neg_ℤ a.0 = omega (arith, ints) in omega (arith, ints, ap (λ z. pos k.divisor *ℤ z) s, m, g, e, a.1, b.1)))

  apart_at : Divides (pos k.divisor) (sums constant_of) → ⊥
  apart_at h =
      let e = exact constant_of nowhere (pos 1) (λ c r m. sym m.constant ∙ omega (arith, ints, value_nowhere r.form.coefficients)) in
      let a = differ constant_of cs n k.divisor above f.form.coefficients in
      let b = unknowns_nothing n (extended n rows nowhere (pos 1)) (λ u low. extended_low n rows nowhere (pos 1) u low) f.form.coefficients in
      k.apart (back k.divisor f.form.constant (h.0 +ℤ a.0, omega (arith, ints, mul-add (pos k.divisor) h.0 a.0, e, a.1, b, h.1)))

  pub divisor_rule : DivisorRule cs (slack_remainders n (pos k.divisor) f.form.coefficients) (pos k.divisor)
  divisor_rule = record {
    allowed = let first : 0 - n ≡ 0 = omega arith in subst (λ i. OfEquations i cs (slack_remainders n (pos k.divisor) f.form.coefficients)) first (of_equations n k.divisor cs 0 (2 ^ 32) f.form.coefficients f.form.ascending equations);
    at_least_two = let a = k.at_least_two in omega (arith, ints);
    divides = divides_at;
    apart = apart_at;
  }
