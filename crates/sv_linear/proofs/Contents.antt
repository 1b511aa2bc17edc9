-- Common divisors of lists of terms, and division by them.
use Rattle.std.proofs.Common.{◌≡◌, ℕ, zero, suc, ◌+◌, ◌*◌, ◌/◌, ◌<◌, ◌≤◌, ℤ, pos, negsuc, ◌+ℤ◌, ◌*ℤ◌, List, [], ◌∷◌, ◌++◌, length, get_or, take, drop, map, unsigned_abs, ap, sym, ◌∙◌, subst, arith, ⊎_elim}
use Rattle.std.specs.Int.{IsGcd, ◌∣◌}
use Rattle.std.specs.Prelude.{All}
use Rattle.std.proofs.lemmas.Int.{ints, unsigned_abs-mul}
use Rattle.std.proofs.lemmas.Bool.{cases_lt}
use Rattle.std.proofs.lemmas.Nat.Gcd.{dvd_refl, dvd_trans, mod-eq-zero_of_dvd, le_of_dvd}
use Rattle.std.proofs.Math.Nat.{mul-le-mul_left, mul-dvd-mul_left, eq-zero_of_zero-dvd}
use Rattle.std.proofs.lemmas.Grind.{common_steps}
use Rattle.std.proofs.lemmas.List.{take_more}
use Rattle.std.proofs.lemmas.List.Elements.{All-nil, All-cons, All-head, All-tail, All-push, All-weaker}
use Rattle.sv_list.specs.Lists.{All-last}
use Rattle.sv_linear.specs.Divisors.{IsContent}
use Rattle.sv_linear.specs.Integers.{mul-add, mul-neg, mul_assoc}
use Rattle.sv_linear.specs.Quotients.{quotient, divided_term}
use Rattle.sv_linear.specs.Terms.{terms_value, AscendsWithin}

front_of : (P : ℕ × ℤ → Type 0) (xs : List (ℕ × ℤ)) (y : ℕ × ℤ) → All P (xs ++ y ∷ []) → All P xs
front_of P [] y h = All-nil P
front_of P (x ∷ xs) y h = All-cons P x xs (All-head P x (xs ++ y ∷ []) h) (front_of P xs y (All-tail P x (xs ++ y ∷ []) h))

content-push : (z : ℤ) (terms : List (ℕ × ℤ)) (t : ℕ × ℤ) (g h : ℕ) → IsContent z terms g → IsGcd g (unsigned_abs t.1) h → IsContent z (terms ++ t ∷ []) h
content-push z terms t g h c e = record {
  divides = record {
    of_constant = dvd_trans h e.0 c.divides.of_constant;
    of_terms = All-push (λ s. h ∣ unsigned_abs s.1) terms t (All-weaker (λ s. g ∣ unsigned_abs s.1) (λ s. h ∣ unsigned_abs s.1) (λ s p. dvd_trans h e.0 p) terms c.divides.of_terms) e.1;
  };
  greatest = λ d a. e.2 d
      (c.greatest d (record { of_constant = a.of_constant; of_terms = front_of (λ s. d ∣ unsigned_abs s.1) terms t a.of_terms }))
      (All-last (λ s. d ∣ unsigned_abs s.1) terms t a.of_terms);
}

pub content-more : (z : ℤ) (terms : List (ℕ × ℤ)) (i : ℕ) (d : ℕ × ℤ) (g h : ℕ) → i < length terms → IsContent z (take i terms) g → IsGcd g (unsigned_abs (get_or terms i d).1) h → IsContent z (take (i + 1) terms) h
content-more z terms i d g h p c e = subst (λ w. IsContent z w h) (sym (take_more terms i d p)) (content-push z (take i terms) (get_or terms i d) g h c e)

pub content-none : (z : ℤ) (g : ℕ) → g ≡ unsigned_abs z → IsContent z [] g
content-none z g e = record {
  divides = record { of_constant = subst (λ n. g ∣ n) e (dvd_refl g); of_terms = All-nil (λ s. g ∣ unsigned_abs s.1) };
  greatest = λ d a. subst (λ n. d ∣ n) (sym e) a.of_constant;
}

-- a divisor's quotient gives the number back
pub quotient-exact : (z : ℤ) (d : ℕ) → 0 < d → d ∣ unsigned_abs z → pos d *ℤ quotient z d ≡ z
quotient-exact (pos n) d p h = let r = mod-eq-zero_of_dvd d h in omega (arith, ints)
quotient-exact (negsuc n) d p h =
    let r = mod-eq-zero_of_dvd d h in
    let whole : suc n ≡ d * (suc n / d) = omega arith in
    omega (arith, ints, mul-neg (pos d) (pos (suc n / d)))

module _ (d : ℕ) (p : 0 < d) where
  pub divided_value : (x : ℕ → ℤ) (ts : List (ℕ × ℤ)) → All (λ t. d ∣ unsigned_abs t.1) ts → pos d *ℤ terms_value x (map (divided_term d) ts) ≡ terms_value x ts
  divided_value x [] h = omega (arith, ints)
  divided_value x (t ∷ ts) h =
      let first = quotient-exact t.1 d p (All-head (λ s. d ∣ unsigned_abs s.1) t ts h) in
      let rest = divided_value x ts (All-tail (λ s. d ∣ unsigned_abs s.1) t ts h) in
      mul-add (pos d) (quotient t.1 d *ℤ x t.0) (terms_value x (map (divided_term d) ts))
      ∙ ap (λ z. z +ℤ pos d *ℤ terms_value x (map (divided_term d) ts)) (sym (mul_assoc (pos d) (quotient t.1 d) (x t.0)) ∙ ap (λ z. z *ℤ x t.0) first)
      ∙ ap (λ z. t.1 *ℤ x t.0 +ℤ z) rest

  factor_not_zero : (a v : ℤ) → pos d *ℤ v ≡ a → 0 < unsigned_abs a → 0 < unsigned_abs v
  factor_not_zero a v e h =
      let k : unsigned_abs a ≡ d * unsigned_abs v = sym (ap unsigned_abs e) ∙ unsigned_abs-mul (pos d) v in
      grind arith

  pub divided_ascends : (low high : ℕ) (ts : List (ℕ × ℤ)) → All (λ t. d ∣ unsigned_abs t.1) ts → AscendsWithin low high ts → AscendsWithin low high (map (divided_term d) ts)
  divided_ascends low high [] h a = a
  divided_ascends low high (t ∷ ts) h a =
      let first = quotient-exact t.1 d p (All-head (λ s. d ∣ unsigned_abs s.1) t ts h) in
      (a.0, (factor_not_zero t.1 (quotient t.1 d) first a.1.0, divided_ascends (t.0 + 1) high ts (All-tail (λ s. d ∣ unsigned_abs s.1) t ts h) a.1.1))

  times_divides : (e : ℕ) (z : ℤ) → d ∣ unsigned_abs z → e ∣ unsigned_abs (quotient z d) → (d * e) ∣ unsigned_abs z
  times_divides e z h k = subst (λ n. (d * e) ∣ n) (sym (unsigned_abs-mul (pos d) (quotient z d)) ∙ ap unsigned_abs (quotient-exact z d p h)) (mul-dvd-mul_left _ d k)

  times_divides_terms : (e : ℕ) (ts : List (ℕ × ℤ)) → All (λ t. d ∣ unsigned_abs t.1) ts → All (λ t. e ∣ unsigned_abs t.1) (map (divided_term d) ts) → All (λ t. (d * e) ∣ unsigned_abs t.1) ts
  times_divides_terms e [] h k = All-nil (λ t. (d * e) ∣ unsigned_abs t.1)
  times_divides_terms e (t ∷ ts) h k =
      All-cons (λ t. (d * e) ∣ unsigned_abs t.1) t ts
      (times_divides e t.1 (All-head (λ s. d ∣ unsigned_abs s.1) t ts h) (All-head (λ s. e ∣ unsigned_abs s.1) (divided_term d t) (map (divided_term d) ts) k))
      (times_divides_terms e ts (All-tail (λ s. d ∣ unsigned_abs s.1) t ts h) (All-tail (λ s. e ∣ unsigned_abs s.1) (divided_term d t) (map (divided_term d) ts) k))

  -- what is left after a division by the content has no common divisor above 1
  pub divided_primitive : (z : ℤ) (ts : List (ℕ × ℤ)) → IsContent z ts d → (e : ℕ) → IsContent (quotient z d) (map (divided_term d) ts) e → e ≤ 1
  divided_primitive z ts c e k =
      let whole : (d * e) ∣ d = c.greatest (d * e) (record {
        of_constant = times_divides e z c.divides.of_constant k.divides.of_constant;
        of_terms = times_divides_terms e ts c.divides.of_terms k.divides.of_terms;
      }) in
      let small : d * e ≤ d = le_of_dvd p whole in
      ⊎_elim (λ l. omega arith) (λ l. absurd (omega (arith, mul-le-mul_left d l))) (cases_lt e 2)

-- a list that is written over from its front to its end
pub whole_written : (new old : List (ℕ × ℤ)) (n : ℕ) → n ≡ length new → length new ≡ length old → take n (new ++ drop (length new) old) ≡ new
whole_written new old n e f = grind (arith, common_steps)

-- a form whose content is below 2 is primitive
pub content_small : (z : ℤ) (ts : List (ℕ × ℤ)) (g h : ℕ) → IsContent z ts g → g < 2 → IsContent z ts h → h ≤ 1
content_small z ts zero h c p k = let f = eq-zero_of_zero-dvd (k.greatest 0 c.divides) in omega arith
content_small z ts (suc g) h c p k = let e : h ∣ suc g = c.greatest h k.divides in let f = le_of_dvd (omega arith) e in omega arith
