-- Two multiples of ascending lists of terms, added up side by side.
use Rattle.std.proofs.Common.{◌≡◌, ℕ, suc, ◌+◌, ◌^◌, ◌<◌, ◌≤◌, ℤ, pos, ◌+ℤ◌, ◌*ℤ◌, ◌≤ℤ◌, List, [], ◌∷◌, ◌++◌, length, unsigned_abs, Bool, true, false, cond, eqb, refl, ap, sym, ◌∙◌, subst, arith, Some, None, min, ⊎_elim}
use Rattle.std.proofs.lemmas.Int.{ints}
use Rattle.std.proofs.lemmas.Bool.{cases_lt}
use Rattle.std.proofs.lemmas.Bool.Decides.{nat_tests}
use Rattle.sv_linear.specs.Terms.{terms_value, coefficient, AscendsWithin}
use Rattle.sv_linear.specs.Meeting.{least_unknown, front_coefficient, behind}
use Rattle.sv_linear.specs.Combining.{FitsFrom}
use Rattle.sv_linear.proofs.Ascending.{terms_value-append, AscendsWithin-append, AscendsWithin-widen, ends_above}
use Rattle.sv_linear.proofs.Bounds.{zeros_fit}
use Rattle.sv_linear.proofs.Homogeneous.{merge_value}
use Rattle.sv_linear.specs.TermLaws.{below_low}

-- a list from the unknown u on: what stands at u, and what stands behind
pub record IsSplit (u : ℕ) (ts : List (ℕ × ℤ)) : Type 0 where
  pub rest : AscendsWithin (u + 1) (2 ^ 32) (behind u ts)
  pub here : coefficient u ts ≡ front_coefficient u ts
  pub later : (v : ℕ) → u < v → coefficient v ts ≡ coefficient v (behind u ts)
  pub value : (x : ℕ → ℤ) → terms_value x ts ≡ front_coefficient u ts *ℤ x u +ℤ terms_value x (behind u ts)

split_step : (u : ℕ) (t : ℕ × ℤ) (ts : List (ℕ × ℤ)) (b : Bool) → eqb t.0 u ≡ b → AscendsWithin u (2 ^ 32) (t ∷ ts) → record {
  rest : AscendsWithin (u + 1) (2 ^ 32) (cond b ts (t ∷ ts));
  here : cond b t.1 (pos 0) +ℤ coefficient u ts ≡ cond b t.1 (pos 0);
  later : (v : ℕ) → u < v → coefficient v (t ∷ ts) ≡ coefficient v (cond b ts (t ∷ ts));
  value : (x : ℕ → ℤ) → terms_value x (t ∷ ts) ≡ cond b t.1 (pos 0) *ℤ x u +ℤ terms_value x (cond b ts (t ∷ ts));
}
split_step u t ts true e a =
    let same : t.0 ≡ u = grind (arith, nat_tests) in
    let from : AscendsWithin (u + 1) (2 ^ 32) ts = subst (λ n. AscendsWithin (n + 1) (2 ^ 32) ts) same a.1.1 in
    let none : coefficient u ts ≡ pos 0 = below_low (u + 1) (2 ^ 32) u ts from (omega arith) in
    record {
      rest = from;
      here = omega (arith, ints);
      later = λ v h. later_step v (eqb t.0 v) (let apart : t.0 < v = omega arith in grind (arith, nat_tests));
      value = λ x. ap (λ n. t.1 *ℤ x n +ℤ terms_value x ts) same;
    }
  where
    later_step : (v : ℕ) (b : Bool) → b ≡ false → cond b t.1 (pos 0) +ℤ coefficient v ts ≡ coefficient v ts
    later_step v true e = absurd (cc)
    later_step v false e = omega (arith, ints)
split_step u t ts false e a =
    let first = a.0 in
    let apart : u < t.0 = grind (arith, nat_tests) in
    record {
      rest = (omega arith, a.1);
      here = let none : coefficient u ts ≡ pos 0 = below_low (t.0 + 1) (2 ^ 32) u ts a.1.1 (omega arith) in omega (arith, ints);
      later = λ v h. refl;
      value = λ x. omega (arith, ints);
    }

pub split_at : (u : ℕ) (ts : List (ℕ × ℤ)) → u < 2 ^ 32 → AscendsWithin u (2 ^ 32) ts → IsSplit u ts
split_at u [] h a = record { rest = omega arith; here = refl; later = λ v p. refl; value = λ x. omega (arith, ints) }
split_at u (t ∷ ts) h a = let s = split_step u t ts (eqb t.0 u) refl a in record { rest = s.rest; here = s.here; later = s.later; value = s.value }

-- the least unknown of two lists from low on
pub record IsLeast (low u : ℕ) (left right : List (ℕ × ℤ)) : Type 0 where
  pub above : low ≤ u
  pub within : u < 2 ^ 32
  pub from_left : AscendsWithin u (2 ^ 32) left
  pub from_right : AscendsWithin u (2 ^ 32) right
  pub smaller : length (behind u left) + length (behind u right) < length left + length right

no_longer : (u : ℕ) (ts : List (ℕ × ℤ)) → length (behind u ts) ≤ length ts
no_longer u [] = omega arith
no_longer u (t ∷ ts) = step (eqb t.0 u)
  where
    step : (b : Bool) → length (cond b ts (t ∷ ts)) ≤ suc (length ts)
    step true = omega arith
    step false = omega arith

shorter : (u : ℕ) (t : ℕ × ℤ) (ts : List (ℕ × ℤ)) → t.0 ≡ u → length (behind u (t ∷ ts)) < length (t ∷ ts)
shorter u t ts e = step (eqb t.0 u) (grind (arith, nat_tests))
  where
    step : (b : Bool) → b ≡ true → length (cond b ts (t ∷ ts)) < suc (length ts)
    step true e = omega arith
    step false e = absurd (cc)

below_end : (t : ℕ × ℤ) (ts : List (ℕ × ℤ)) → AscendsWithin (t.0 + 1) (2 ^ 32) ts → t.0 < 2 ^ 32
below_end t ts a = let e = ends_above (t.0 + 1) (2 ^ 32) ts a in omega arith

pub least_of : (low u : ℕ) (left right : List (ℕ × ℤ)) → least_unknown left right ≡ Some u → AscendsWithin low (2 ^ 32) left → AscendsWithin low (2 ^ 32) right → IsLeast low u left right
least_of low u [] [] e a b = absurd (cc)
least_of low u [] (s ∷ ss) e a b =
    let same : s.0 ≡ u = cc in
    let first = b.0 in
    let end = below_end s ss b.1.1 in
    let less = shorter u s ss same in
    record { above = omega arith; within = omega arith; from_left = omega arith; from_right = (omega arith, b.1); smaller = omega arith }
least_of low u (t ∷ ts) [] e a b =
    let same : t.0 ≡ u = cc in
    let first = a.0 in
    let end = below_end t ts a.1.1 in
    let less = shorter u t ts same in
    record { above = omega arith; within = omega arith; from_left = (omega arith, a.1); from_right = omega arith; smaller = omega arith }
least_of low u (t ∷ ts) (s ∷ ss) e a b =
    let same : min t.0 s.0 ≡ u = cc in
    let first = a.0 in
    let second = b.0 in
    let end = below_end t ts a.1.1 in
    let end2 = below_end s ss b.1.1 in
    let less : length (behind u (t ∷ ts)) + length (behind u (s ∷ ss)) < length (t ∷ ts) + length (s ∷ ss) =
    ⊎_elim
    (λ l. let k = shorter u t ts (omega arith) in let m = no_longer u (s ∷ ss) in omega arith)
    (λ l. let k = shorter u s ss (omega arith) in let m = no_longer u (t ∷ ts) in omega arith)
    (cases_lt t.0 s.0) in
    record { above = omega arith; within = omega arith; from_left = (omega arith, a.1); from_right = (omega arith, b.1); smaller = less }

-- a merge of which `left` and `right` are still to be read, and `out` is done
pub record IsMerging (least p : ℤ) (a : List (ℕ × ℤ)) (q : ℤ) (b out left right : List (ℕ × ℤ)) : Type 0 where
  pub low : ℕ
  pub done : AscendsWithin 0 low out
  pub rest_a : AscendsWithin low (2 ^ 32) left
  pub rest_b : AscendsWithin low (2 ^ 32) right
  pub same_a : (u : ℕ) → low ≤ u → coefficient u a ≡ coefficient u left
  pub same_b : (u : ℕ) → low ≤ u → coefficient u b ≡ coefficient u right
  pub fits : (u : ℕ) → u < low → FitsFrom least p (coefficient u a) q (coefficient u b)
  pub value : (x : ℕ → ℤ) → terms_value x out +ℤ (p *ℤ terms_value x left +ℤ q *ℤ terms_value x right) ≡ p *ℤ terms_value x a +ℤ q *ℤ terms_value x b

module _ (least p : ℤ) (a : List (ℕ × ℤ)) (q : ℤ) (b out left right : List (ℕ × ℤ)) (u : ℕ) (neg : least ≤ℤ pos 0) (m : IsMerging least p a q b out left right) (is : least_unknown left right ≡ Some u) where
  next : IsLeast m.low u left right
  next = least_of m.low u left right is m.rest_a m.rest_b

  here_a : coefficient u a ≡ front_coefficient u left
  here_a = m.same_a u next.above ∙ (split_at u left next.within next.from_left).here

  here_b : coefficient u b ≡ front_coefficient u right
  here_b = m.same_b u next.above ∙ (split_at u right next.within next.from_right).here

  -- below the next unknown all sums fit
  pub fits_below : (v : ℕ) → v < u → FitsFrom least p (coefficient v a) q (coefficient v b)
  fits_below v h =
      ⊎_elim (m.fits v)
      (λ l. zeros_fit least p (coefficient v a) q (coefficient v b) neg
      (m.same_a v l ∙ below_low u (2 ^ 32) v left next.from_left h)
      (m.same_b v l ∙ below_low u (2 ^ 32) v right next.from_right h))
      (cases_lt v m.low)

  -- the refusal of the sum there is the first
  pub refused_first : (FitsFrom least p (front_coefficient u left) q (front_coefficient u right) → ⊥) →
      (FitsFrom least p (coefficient u a) q (coefficient u b) → ⊥) × ((v : ℕ) → v < u → FitsFrom least p (coefficient v a) q (coefficient v b))
  refused_first refused = ((λ f. refused (subst (λ z. FitsFrom least p z q (front_coefficient u right)) here_a (subst (λ z. FitsFrom least p (coefficient u a) q z) here_b f))), fits_below)

  pub merging-smaller : length (behind u left) + length (behind u right) < length left + length right
  merging-smaller = next.smaller

  module _ (sum : ℤ) (sum_is : sum ≡ p *ℤ front_coefficient u left +ℤ q *ℤ front_coefficient u right) (fits : FitsFrom least p (front_coefficient u left) q (front_coefficient u right)) where
    fits_here : FitsFrom least p (coefficient u a) q (coefficient u b)
    fits_here = subst (λ z. FitsFrom least p z q (coefficient u b)) (sym here_a) (subst (λ z. FitsFrom least p (front_coefficient u left) q z) (sym here_b) fits)

    fits_so_far : (v : ℕ) → v < u + 1 → FitsFrom least p (coefficient v a) q (coefficient v b)
    fits_so_far v h = ⊎_elim (fits_below v) (λ l. let e : u ≡ v = omega arith in subst (λ n. FitsFrom least p (coefficient n a) q (coefficient n b)) e fits_here) (cases_lt v u)

    value_so_far : (x : ℕ → ℤ) → (terms_value x out +ℤ sum *ℤ x u) +ℤ (p *ℤ terms_value x (behind u left) +ℤ q *ℤ terms_value x (behind u right)) ≡ p *ℤ terms_value x a +ℤ q *ℤ terms_value x b
    value_so_far x =
        merge_value p q (terms_value x out) (front_coefficient u left) (front_coefficient u right) (terms_value x (behind u left)) (terms_value x (behind u right)) (x u) sum sum_is
        ∙ ap (λ z. terms_value x out +ℤ (p *ℤ z +ℤ q *ℤ (front_coefficient u right *ℤ x u +ℤ terms_value x (behind u right)))) (sym ((split_at u left next.within next.from_left).value x))
        ∙ ap (λ z. terms_value x out +ℤ (p *ℤ terms_value x left +ℤ q *ℤ z)) (sym ((split_at u right next.within next.from_right).value x))
        ∙ m.value x

    pub merging-more : (next_out : List (ℕ × ℤ)) → 0 < unsigned_abs sum → next_out ≡ out ++ (u, sum) ∷ [] → IsMerging least p a q b next_out (behind u left) (behind u right)
    merging-more next_out some whole = record {
      low = u + 1;
      done = subst (AscendsWithin 0 (u + 1)) (sym whole) (AscendsWithin-append 0 m.low (u + 1) out ((u, sum) ∷ []) m.done (next.above, (some, omega arith)));
      rest_a = (split_at u left next.within next.from_left).rest;
      rest_b = (split_at u right next.within next.from_right).rest;
      same_a = λ v h. let above = next.above in m.same_a v (omega arith) ∙ (split_at u left next.within next.from_left).later v (omega arith);
      same_b = λ v h. let above = next.above in m.same_b v (omega arith) ∙ (split_at u right next.within next.from_right).later v (omega arith);
      fits = fits_so_far;
      value = λ x.
          let added : terms_value x next_out ≡ terms_value x out +ℤ sum *ℤ x u = ap (terms_value x) whole ∙ terms_value-append x out ((u, sum) ∷ []) ∙ omega (arith, ints) in
          ap (λ z. z +ℤ (p *ℤ terms_value x (behind u left) +ℤ q *ℤ terms_value x (behind u right))) added ∙ value_so_far x;
    }

    pub merging-gone : sum ≡ pos 0 → IsMerging least p a q b out (behind u left) (behind u right)
    merging-gone none = record {
      low = u + 1;
      done = let above = next.above in AscendsWithin-widen 0 m.low (u + 1) out (omega arith) m.done;
      rest_a = (split_at u left next.within next.from_left).rest;
      rest_b = (split_at u right next.within next.from_right).rest;
      same_a = λ v h. let above = next.above in m.same_a v (omega arith) ∙ (split_at u left next.within next.from_left).later v (omega arith);
      same_b = λ v h. let above = next.above in m.same_b v (omega arith) ∙ (split_at u right next.within next.from_right).later v (omega arith);
      fits = fits_so_far;
      value = λ x.
          let added : terms_value x out ≡ terms_value x out +ℤ sum *ℤ x u = omega (arith, ints, ap (λ z. z *ℤ x u) none) in
          ap (λ z. z +ℤ (p *ℤ terms_value x (behind u left) +ℤ q *ℤ terms_value x (behind u right))) added ∙ value_so_far x;
    }

-- both lists are read
pub record IsMerged (least p : ℤ) (a : List (ℕ × ℤ)) (q : ℤ) (b out : List (ℕ × ℤ)) : Type 0 where
  pub value : (x : ℕ → ℤ) → terms_value x out ≡ p *ℤ terms_value x a +ℤ q *ℤ terms_value x b
  pub ascending : AscendsWithin 0 (2 ^ 32) out
  pub fits : (u : ℕ) → FitsFrom least p (coefficient u a) q (coefficient u b)

pub merging-all : (least p : ℤ) (a : List (ℕ × ℤ)) (q : ℤ) (b out left right : List (ℕ × ℤ)) → least ≤ℤ pos 0 → IsMerging least p a q b out left right → least_unknown left right ≡ None → IsMerged least p a q b out
merging-all least p a q b out [] [] neg m is = record {
  value = λ x. omega (arith, ints, m.value x);
  ascending = AscendsWithin-widen 0 m.low (2 ^ 32) out m.rest_a m.done;
  fits = λ u. ⊎_elim (m.fits u) (λ l. zeros_fit least p (coefficient u a) q (coefficient u b) neg (m.same_a u l) (m.same_b u l)) (cases_lt u m.low);
}
merging-all least p a q b out [] (s ∷ ss) neg m is = absurd (cc)
merging-all least p a q b out (t ∷ ts) [] neg m is = absurd (cc)
merging-all least p a q b out (t ∷ ts) (s ∷ ss) neg m is = absurd (cc)
