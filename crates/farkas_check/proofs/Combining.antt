-- What a combination of rows says at a point.
use Rattle.std.proofs.Common.{◌≡◌, ◌≢◌, ℕ, zero, suc, ◌+◌, ◌<◌, ◌≤◌, ℤ, pos, ◌+ℤ◌, ◌*ℤ◌, ◌≤ℤ◌, List, [], ◌∷◌, ◌++◌, length, get_or, Bool, true, false, cond, eqb, ◌⊎◌, ⊎_elim, inl, inr, refl, ap, sym, ◌∙◌, subst, arith}
use Rattle.std.proofs.lemmas.Int.{ints}
use Rattle.std.proofs.lemmas.Bool.Decides.{eqb_tells}
use Rattle.sv_linear.specs.Terms.{terms_value, coefficient}
use Rattle.sv_linear.specs.Integers.{mul-add, add-mul, mul_assoc, scaled_at_most}
use Rattle.sv_linear.proofs.Ascending.{terms_value-append}
use Rattle.sv_linear.specs.TermLaws.{coefficient-append}
use Rattle.farkas_check.specs.Systems.{Constraint, no_constraint, constraint_value, Meets}
use Rattle.farkas_check.specs.Closings.{combined, coefficient_of, constant_of, Allowed, OfEquations}

abbrev pub MeetsAll : (ℕ → ℤ) → List Constraint → Type 0
MeetsAll x rows = (k : ℕ) → k < length rows → Meets x (get_or rows k no_constraint)

-- sets of numbers that are kept by sums and multiples
pub record IsIdeal (P : ℤ → Type 0) : Type 0 where
  pub at_zero : P (pos 0)
  pub at_sum : (a b : ℤ) → P a → P b → P (a +ℤ b)
  pub at_product : (a b : ℤ) → P a → P (a *ℤ b)

-- the terms of the other unknowns
abbrev pub without : ℕ → List (ℕ × ℤ) → List (ℕ × ℤ)
without u [] = []
without u (t ∷ ts) = cond (eqb t.0 u) (without u ts) (t ∷ without u ts)

split_step : (x : ℕ → ℤ) (u : ℕ) (t : ℕ × ℤ) (ts : List (ℕ × ℤ)) → terms_value x ts ≡ coefficient u ts *ℤ x u +ℤ terms_value x (without u ts) →
    (b : Bool) → ((b ≡ true) × (t.0 ≡ u)) ⊎ ((b ≡ false) × (t.0 ≢ u)) →
    t.1 *ℤ x t.0 +ℤ terms_value x ts ≡ (cond b t.1 (pos 0) +ℤ coefficient u ts) *ℤ x u +ℤ terms_value x (cond b (without u ts) (t ∷ without u ts))
split_step x u t ts h true (inl e) = let s : t.1 *ℤ x t.0 ≡ t.1 *ℤ x u = ap (λ v. t.1 *ℤ x v) e.1 in omega (arith, ints, add-mul t.1 (coefficient u ts) (x u))
split_step x u t ts h true (inr e) = absurd (let f = e.0 in cc)
split_step x u t ts h false (inl e) = absurd (let f = e.0 in cc)
split_step x u t ts h false (inr e) = omega (arith, ints, add-mul (pos 0) (coefficient u ts) (x u))

pub split_off : (x : ℕ → ℤ) (u : ℕ) (ts : List (ℕ × ℤ)) → terms_value x ts ≡ coefficient u ts *ℤ x u +ℤ terms_value x (without u ts)
split_off x u [] = omega (arith, ints)
split_off x u (t ∷ ts) = split_step x u t ts (split_off x u ts) (eqb t.0 u) (eqb_tells t.0 u)

own_step : (u v : ℕ) (t : ℕ × ℤ) (ts : List (ℕ × ℤ)) → v ≡ u → coefficient v (without u ts) ≡ pos 0 →
    (b : Bool) → ((b ≡ true) × (t.0 ≡ u)) ⊎ ((b ≡ false) × (t.0 ≢ u)) →
    (d : Bool) → ((d ≡ true) × (t.0 ≡ v)) ⊎ ((d ≡ false) × (t.0 ≢ v)) → eqb t.0 v ≡ d →
    coefficient v (cond b (without u ts) (t ∷ without u ts)) ≡ pos 0
own_step u v t ts same h true e d f g = h
own_step u v t ts same h false (inl e) d f g = absurd (let k = e.0 in cc)
own_step u v t ts same h false (inr e) true (inl f) g = absurd (e.1 (f.1 ∙ same))
own_step u v t ts same h false (inr e) true (inr f) g = absurd (let k = f.0 in cc)
own_step u v t ts same h false (inr e) false f g = ap (λ (w : Bool). cond w t.1 (pos 0) +ℤ coefficient v (without u ts)) g ∙ omega (arith, ints)

pub coefficient-without_own : (u v : ℕ) (ts : List (ℕ × ℤ)) → v ≡ u → coefficient v (without u ts) ≡ pos 0
coefficient-without_own u v [] same = refl
coefficient-without_own u v (t ∷ ts) same =
    own_step u v t ts same (coefficient-without_own u v ts same) (eqb t.0 u) (eqb_tells t.0 u) (eqb t.0 v) (eqb_tells t.0 v) refl

other_step : (u v : ℕ) (t : ℕ × ℤ) (ts : List (ℕ × ℤ)) → v ≢ u → coefficient v (without u ts) ≡ coefficient v ts →
    (b : Bool) → ((b ≡ true) × (t.0 ≡ u)) ⊎ ((b ≡ false) × (t.0 ≢ u)) →
    (d : Bool) → ((d ≡ true) × (t.0 ≡ v)) ⊎ ((d ≡ false) × (t.0 ≢ v)) → eqb t.0 v ≡ d →
    coefficient v (cond b (without u ts) (t ∷ without u ts)) ≡ cond (eqb t.0 v) t.1 (pos 0) +ℤ coefficient v ts
other_step u v t ts n h false e d f g = ap (λ z. cond (eqb t.0 v) t.1 (pos 0) +ℤ z) h
other_step u v t ts n h true (inr e) d f g = absurd (let k = e.0 in cc)
other_step u v t ts n h true (inl e) true (inl f) g = absurd (n (sym f.1 ∙ e.1))
other_step u v t ts n h true (inl e) true (inr f) g = absurd (let k = f.0 in cc)
other_step u v t ts n h true (inl e) false f g = h ∙ sym (ap (λ (w : Bool). cond w t.1 (pos 0) +ℤ coefficient v ts) g ∙ omega (arith, ints))

pub coefficient-without_other : (u v : ℕ) (ts : List (ℕ × ℤ)) → v ≢ u → coefficient v (without u ts) ≡ coefficient v ts
coefficient-without_other u v [] n = refl
coefficient-without_other u v (t ∷ ts) n =
    other_step u v t ts n (coefficient-without_other u v ts n) (eqb t.0 u) (eqb_tells t.0 u) (eqb t.0 v) (eqb_tells t.0 v) refl

pub length_step : (u : ℕ) (t : ℕ × ℤ) (ts : List (ℕ × ℤ)) → length (without u ts) ≤ length ts → (b : Bool) → length (cond b (without u ts) (t ∷ without u ts)) ≤ suc (length ts)
length_step u t ts h true = omega arith
length_step u t ts h false = omega arith

pub length-without : (u : ℕ) (ts : List (ℕ × ℤ)) → length (without u ts) ≤ length ts
length-without u [] = omega arith
length-without u (t ∷ ts) = length_step u t ts (length-without u ts) (eqb t.0 u)

pub length-without_own : (t : ℕ × ℤ) (ts : List (ℕ × ℤ)) → length (without t.0 (t ∷ ts)) ≤ length ts
length-without_own t ts = by (eqb t.0 t.0) (eqb_tells t.0 t.0)
  where
    by : (b : Bool) → ((b ≡ true) × (t.0 ≡ t.0)) ⊎ ((b ≡ false) × (t.0 ≢ t.0)) → length (cond b (without t.0 ts) (t ∷ without t.0 ts)) ≤ length ts
    by true e = length-without t.0 ts
    by false (inl e) = absurd (let f : false ≡ true = e.0 in cc)
    by false (inr e) = absurd (e.1 refl)

-- where each coefficient lies in an ideal, so does the value
pub value_in_ideal : (P : ℤ → Type 0) → IsIdeal P → (x : ℕ → ℤ) (n : ℕ) (ts : List (ℕ × ℤ)) → length ts ≤ n → ((u : ℕ) → P (coefficient u ts)) → P (terms_value x ts)
value_in_ideal P i x n [] l h = i.at_zero
value_in_ideal P i x zero (t ∷ ts) l h = absurd (omega arith)
value_in_ideal P i x (suc n) (t ∷ ts) l h =
    subst P (sym (split_off x t.0 (t ∷ ts)))
    (i.at_sum _ _ (i.at_product _ (x t.0) (h t.0))
    (value_in_ideal P i x n (without t.0 (t ∷ ts)) (omega (arith, length-without_own t ts))
    (λ u. ⊎_elim
    (λ e. subst P (sym (coefficient-without_own t.0 u (t ∷ ts) (sym e.1))) i.at_zero)
    (λ e. subst P (sym (coefficient-without_other t.0 u (t ∷ ts) (λ g. e.1 (sym g)))) (h u))
    (eqb_tells t.0 u))))

-- each coefficient times a number
abbrev pub scaled : ℤ → List (ℕ × ℤ) → List (ℕ × ℤ)
scaled a [] = []
scaled a (t ∷ ts) = (t.0, a *ℤ t.1) ∷ scaled a ts

scaled_step : (u : ℕ) (a : ℤ) (t : ℕ × ℤ) (ts : List (ℕ × ℤ)) → coefficient u (scaled a ts) ≡ a *ℤ coefficient u ts →
    (b : Bool) → cond b (a *ℤ t.1) (pos 0) +ℤ coefficient u (scaled a ts) ≡ a *ℤ (cond b t.1 (pos 0) +ℤ coefficient u ts)
scaled_step u a t ts h true = omega (arith, ints, mul-add a t.1 (coefficient u ts))
scaled_step u a t ts h false = omega (arith, ints, mul-add a (pos 0) (coefficient u ts))

pub coefficient-scaled : (u : ℕ) (a : ℤ) (ts : List (ℕ × ℤ)) → coefficient u (scaled a ts) ≡ a *ℤ coefficient u ts
coefficient-scaled u a [] = omega (arith, ints)
coefficient-scaled u a (t ∷ ts) = scaled_step u a t ts (coefficient-scaled u a ts) (eqb t.0 u)

pub value-scaled : (x : ℕ → ℤ) (a : ℤ) (ts : List (ℕ × ℤ)) → terms_value x (scaled a ts) ≡ a *ℤ terms_value x ts
value-scaled x a [] = omega (arith, ints)
value-scaled x a (t ∷ ts) = omega (arith, ints, mul-add a (t.1 *ℤ x t.0) (terms_value x ts), mul_assoc a t.1 (x t.0), value-scaled x a ts)

-- the terms of the combination, one row's after another's
abbrev pub all_terms : List Constraint → List (ℕ × ℤ) → List (ℕ × ℤ)
all_terms rows [] = []
all_terms rows (m ∷ ms) = scaled m.1 (get_or rows m.0 no_constraint).terms ++ all_terms rows ms

pub coefficient-all_terms : (u : ℕ) (rows : List Constraint) (ms : List (ℕ × ℤ)) → coefficient u (all_terms rows ms) ≡ combined (coefficient_of u) rows ms
coefficient-all_terms u rows [] = refl
coefficient-all_terms u rows (m ∷ ms) =
    let r = get_or rows m.0 no_constraint in
    coefficient-append u (scaled m.1 r.terms) (all_terms rows ms) ∙ omega (arith, ints, coefficient-scaled u m.1 r.terms, coefficient-all_terms u rows ms)

abbrev pub terms_of : (ℕ → ℤ) → Constraint → ℤ
terms_of x c = terms_value x c.terms

pub value-all_terms : (x : ℕ → ℤ) (rows : List Constraint) (ms : List (ℕ × ℤ)) → terms_value x (all_terms rows ms) ≡ combined (terms_of x) rows ms
value-all_terms x rows [] = refl
value-all_terms x rows (m ∷ ms) =
    let r = get_or rows m.0 no_constraint in
    terms_value-append x (scaled m.1 r.terms) (all_terms rows ms) ∙ omega (arith, ints, value-scaled x m.1 r.terms, value-all_terms x rows ms)

pub combined_value : (x : ℕ → ℤ) (rows : List Constraint) (ms : List (ℕ × ℤ)) → combined (constraint_value x) rows ms ≡ combined (terms_of x) rows ms +ℤ combined constant_of rows ms
combined_value x rows [] = refl
combined_value x rows (m ∷ ms) =
    let r = get_or rows m.0 no_constraint in
    omega (arith, ints, mul-add m.1 (terms_value x r.terms) r.constant, combined_value x rows ms)

pub combined_at_most : (x : ℕ → ℤ) (low : ℕ) (rows : List Constraint) (ms : List (ℕ × ℤ)) → MeetsAll x rows → Allowed low rows ms → combined (constraint_value x) rows ms ≤ℤ pos 0
combined_at_most x low rows [] meets a = omega (arith, ints)
combined_at_most x low rows (m ∷ ms) meets a =
    let r = get_or rows m.0 no_constraint in
    let own = meets m.0 a.1.0 in
    let rest = combined_at_most x (m.0 + 1) rows ms meets a.1.1.1 in
    let here : (m.1 *ℤ constraint_value x r) ≤ℤ pos 0 =
    ⊎_elim (λ e. let z : m.1 *ℤ constraint_value x r ≡ pos 0 = ap (λ w. m.1 *ℤ w) (own.equal e) ∙ omega (arith, ints) in omega (arith, ints))
    (λ p. scaled_at_most m.1 (constraint_value x r) p own.at_most) a.1.1.0 in
    omega (arith, ints)

pub combined_equal : (x : ℕ → ℤ) (low : ℕ) (rows : List Constraint) (ms : List (ℕ × ℤ)) → MeetsAll x rows → OfEquations low rows ms → combined (constraint_value x) rows ms ≡ pos 0
combined_equal x low rows [] meets a = refl
combined_equal x low rows (m ∷ ms) meets a =
    let r = get_or rows m.0 no_constraint in
    let rest = combined_equal x (m.0 + 1) rows ms meets a.1.1.1 in
    let here : m.1 *ℤ constraint_value x r ≡ pos 0 = ap (λ w. m.1 *ℤ w) ((meets m.0 a.1.0).equal a.1.1.0) ∙ omega (arith, ints) in
    omega (arith, ints)
