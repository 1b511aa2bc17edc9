-- Terms one by one: the coefficient that a term gives, and sums of their values.
use Rattle.std.proofs.Common.{◌≡◌, ◌≢◌, ℕ, zero, suc, ◌+◌, ◌*◌, ◌<◌, ◌≤◌, ℤ, pos, ◌+ℤ◌, ◌*ℤ◌, ◌≤ℤ◌, List, [], ◌∷◌, ◌++◌, slice_get, Some, unsigned_abs, Bool, true, false, cond, eqb, ◌⊎◌, inl, inr, refl, ap, ◌∙◌, subst, arith, mul-le-mul_left}
use Rattle.std.proofs.lemmas.Int.{ints}
use Rattle.std.proofs.lemmas.Bool.Decides.{nat_tests, eqb_tells}
use Rattle.sv_linear.specs.Integers.{mul-add, add-mul, times_zero}
use Rattle.sv_linear.specs.Rows.{terms_weight}
use Rattle.sv_linear.specs.Terms.{coefficient, terms_value, AscendsWithin}

pub passed : (u : ℕ) (t : ℕ × ℤ) (ts : List (ℕ × ℤ)) (b : Bool) → b ≡ false → cond b t.1 (pos 0) +ℤ coefficient u ts ≡ coefficient u ts
passed u t ts true e = absurd (cc)
passed u t ts false e = omega (arith, ints)

pub met : (u : ℕ) (t : ℕ × ℤ) (ts : List (ℕ × ℤ)) (b : Bool) → b ≡ true → coefficient u ts ≡ pos 0 → cond b t.1 (pos 0) +ℤ coefficient u ts ≡ t.1
met u t ts true e h = omega (arith, ints)
met u t ts false e h = absurd (cc)

pub below_low : (low high u : ℕ) (ts : List (ℕ × ℤ)) → AscendsWithin low high ts → u < low → coefficient u ts ≡ pos 0
below_low low high u [] b h = refl
below_low low high u (t ∷ ts) b h =
    let first = b.0 in
    let other : eqb t.0 u ≡ false = grind (arith, nat_tests) in
    passed u t ts (eqb t.0 u) other ∙ below_low (t.0 + 1) high u ts b.1.1 (omega arith)

pub above_high : (low high u : ℕ) (ts : List (ℕ × ℤ)) → AscendsWithin low high ts → high ≤ u → coefficient u ts ≡ pos 0
above_high low high u [] b h = refl
above_high low high u (t ∷ ts) b h =
    let rest = ends (t.0 + 1) high ts b.1.1 in
    let other : eqb t.0 u ≡ false = grind (arith, nat_tests) in
    passed u t ts (eqb t.0 u) other ∙ above_high (t.0 + 1) high u ts b.1.1 h
  where
    ends : (l g : ℕ) (xs : List (ℕ × ℤ)) → AscendsWithin l g xs → l ≤ g
    ends l g [] p = p
    ends l g (x ∷ xs) p = let more = ends (x.0 + 1) g xs p.1.1 in let front = p.0 in omega arith

-- the coefficient of a term
pub record IsHere (low : ℕ) (ts : List (ℕ × ℤ)) (t : ℕ × ℤ) : Type 0 where
  pub above : low ≤ t.0
  pub is : coefficient t.0 ts ≡ t.1
  pub not_zero : 0 < unsigned_abs t.1

pub term_here : (low high : ℕ) (ts : List (ℕ × ℤ)) (k : ℕ) (t : ℕ × ℤ) → AscendsWithin low high ts → slice_get ts k ≡ Some t → IsHere low ts t
term_here low high [] k t b e = absurd (cc)
term_here low high (s ∷ ts) zero t b e =
    let same : s ≡ t = cc in
    let yes_same : eqb s.0 s.0 ≡ true = grind (arith, nat_tests) in
    subst (λ (w : ℕ × ℤ). IsHere low (s ∷ ts) w) same
    (record { above = b.0; is = met s.0 s ts (eqb s.0 s.0) yes_same (below_low (s.0 + 1) high s.0 ts b.1.1 (omega arith)); not_zero = b.1.0 })
term_here low high (s ∷ ts) (suc k) t b e =
    let rest = term_here (s.0 + 1) high ts k t b.1.1 e in
    let first = b.0 in
    let above = rest.above in
    let other : eqb s.0 t.0 ≡ false = grind (arith, nat_tests) in
    record { above = omega arith; is = passed t.0 s ts (eqb s.0 t.0) other ∙ rest.is; not_zero = rest.not_zero }

-- every term of the list
abbrev pub EachTerm : (ℕ × ℤ → Type 0) → List (ℕ × ℤ) → Type 0
EachTerm P ts = (k : ℕ) (t : ℕ × ℤ) → slice_get ts k ≡ Some t → P t

pub rest_of : (P : ℕ × ℤ → Type 0) (t : ℕ × ℤ) (ts : List (ℕ × ℤ)) → EachTerm P (t ∷ ts) → EachTerm P ts
rest_of P t ts h k s e = h (suc k) s e

-- a sum with one quantity that isn't 0
pub one_value : (x : ℕ → ℤ) (q : ℕ) (ts : List (ℕ × ℤ)) → EachTerm (λ t. t.0 ≢ q → x t.0 ≡ pos 0) ts → terms_value x ts ≡ coefficient q ts *ℤ x q
one_value x q [] h = omega (arith, ints)
one_value x q (t ∷ ts) h = by (eqb t.0 q) (eqb_tells t.0 q) (one_value x q ts (rest_of (λ s. s.0 ≢ q → x s.0 ≡ pos 0) t ts h))
  where
    by : (b : Bool) → ((b ≡ true) × (t.0 ≡ q)) ⊎ ((b ≡ false) × (t.0 ≢ q)) → terms_value x ts ≡ coefficient q ts *ℤ x q → t.1 *ℤ x t.0 +ℤ terms_value x ts ≡ (cond b t.1 (pos 0) +ℤ coefficient q ts) *ℤ x q
    by true (inl e) r = let a = ap (λ k. t.1 *ℤ x k) e.1 in omega (arith, ints, a, r, add-mul t.1 (coefficient q ts) (x q))
    by true (inr e) r = absurd (cc)
    by false (inl e) r = absurd (cc)
    by false (inr e) r =
        let z = times_zero t.1 (x t.0) (h zero t refl e.1) in
        let a : pos 0 +ℤ coefficient q ts ≡ coefficient q ts = omega (arith, ints) in
        let b = ap (λ k. k *ℤ x q) a in
        omega (arith, ints, z, r, b)

-- the signs of the terms' values, times a number
pub signs : (x : ℕ → ℤ) (c : ℤ) (ts : List (ℕ × ℤ)) → EachTerm (λ t. pos 0 ≤ℤ (c *ℤ (t.1 *ℤ x t.0))) ts → pos 0 ≤ℤ (c *ℤ terms_value x ts)
signs x c [] h = omega (arith, ints)
signs x c (t ∷ ts) h =
    omega (arith, ints, h zero t refl, signs x c ts (rest_of (λ s. pos 0 ≤ℤ (c *ℤ (s.1 *ℤ x s.0))) t ts h), mul-add c (t.1 *ℤ x t.0) (terms_value x ts))

-- what stands behind
pub coefficient-append : (u : ℕ) (xs ys : List (ℕ × ℤ)) → coefficient u (xs ++ ys) ≡ coefficient u xs +ℤ coefficient u ys
coefficient-append u [] ys = omega (arith, ints)
coefficient-append u (t ∷ ts) ys = omega (arith, ints, coefficient-append u ts ys)

pub coefficient-push : (u : ℕ) (ts : List (ℕ × ℤ)) (t : ℕ × ℤ) → coefficient u (ts ++ t ∷ []) ≡ coefficient u ts +ℤ cond (eqb t.0 u) t.1 (pos 0)
coefficient-push u [] t = omega (arith, ints)
coefficient-push u (s ∷ ts) t = omega (arith, ints, coefficient-push u ts t)

-- larger sides weigh more
pub weight-less : (a b : ℕ → ℕ) → ((u : ℕ) → a u ≤ b u) → (ts : List (ℕ × ℤ)) → terms_weight a ts ≤ terms_weight b ts
weight-less a b h [] = omega arith
weight-less a b h (p ∷ ts) =
    let m : unsigned_abs p.1 * a p.0 ≤ unsigned_abs p.1 * b p.0 = mul-le-mul_left (unsigned_abs p.1) (h p.0) in
    let r = weight-less a b h ts in
    omega arith
