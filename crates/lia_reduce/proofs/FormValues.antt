-- The value of a form, term by term; forms that are made term by term; rows that are met one by one.
use Rattle.std.proofs.Common.{◌≡◌, ◌≢◌, ℕ, zero, suc, ◌+◌, ◌<◌, ◌≤◌, ℤ, pos, ◌+ℤ◌, ◌*ℤ◌, List, [], ◌∷◌, ◌++◌, length, get_or, take, map, unsigned_abs, ⊎_elim, refl, sym, ap, ◌∙◌, subst, arith}
use Rattle.std.proofs.lemmas.Int.{ints}
use Rattle.std.proofs.lemmas.List.{take_more, take_all, get_or-map}
use Rattle.std.proofs.lemmas.Bool.{cases_lt}
use Rattle.sv_linear.specs.Forms.{form_value}
use Rattle.sv_linear.specs.Terms.{terms_value}
use Rattle.sv_linear.specs.declared.form.Form.{Form}
use Rattle.sv_linear.specs.declared.row.Row.{Row}
use Rattle.farkas_check.specs.Systems.{Meets, constraint_of, no_constraint}
use Rattle.lia_reduce.specs.RowTerms.{pushed_value}

pub value-none : (x : ℕ → ℤ) (ts : List (ℕ × ℤ)) (z : ℤ) → z ≡ terms_value x (take 0 ts) +ℤ z
value-none x [] z = omega (arith, ints)
value-none x (t ∷ ts) z = omega (arith, ints)

pub value-more : (x : ℕ → ℤ) (ts items : List (ℕ × ℤ)) (i : ℕ) (z sum now : ℤ) → items ≡ ts → i < length items → sum ≡ terms_value x (take i ts) +ℤ z
    → now ≡ sum +ℤ (get_or items i (0, pos 0)).1 *ℤ x (get_or items i (0, pos 0)).0 → now ≡ terms_value x (take (i + 1) ts) +ℤ z
value-more x ts items i z sum now same h before e =
    let t = get_or items i (0, pos 0) in
    let longer : take (i + 1) ts ≡ take i ts ++ t ∷ [] = subst (λ (l : List (ℕ × ℤ)). take (i + 1) l ≡ take i l ++ t ∷ []) same (take_more items i (0, pos 0) h) in
    let v = ap (terms_value x) longer in
    let p = pushed_value x (take i ts) t.0 t.1 in
    omega (arith, ints, before, e, v, p)

pub value-done : (x : ℕ → ℤ) (f : Form) (items : List (ℕ × ℤ)) (i : ℕ) (sum : ℤ) → items ≡ f.coefficients → length items ≤ i → sum ≡ terms_value x (take i f.coefficients) +ℤ f.constant → sum ≡ form_value x (pos 1) f
value-done x f items i sum same h e =
    let all : take i f.coefficients ≡ f.coefficients = take_all i f.coefficients (let s = ap length same in omega (arith, h, s)) in
    let v = ap (terms_value x) all in
    omega (arith, ints, e, v)

pub some-amount : (a : ℤ) → a ≢ pos 0 → 0 < unsigned_abs a
some-amount a n = by (unsigned_abs a) refl
  where
    by : (m : ℕ) → unsigned_abs a ≡ m → 0 < unsigned_abs a
    by zero e = absurd (n (omega (arith, ints)))
    by (suc m) e = omega arith

pub meets-more : (x : ℕ → ℤ) (rows items : List Row) (i : ℕ) (row : Row) → items ≡ rows → row ≡ get_or items i row → i < length items → ((k : ℕ) → k < i → Meets x (get_or (map constraint_of rows) k no_constraint))
    → Meets x (constraint_of row) → (k : ℕ) → k < i + 1 → Meets x (get_or (map constraint_of rows) k no_constraint)
meets-more x rows items i row same is h before met k low = ⊎_elim (before k) last (cases_lt k i)
  where
    last : i ≤ k → Meets x (get_or (map constraint_of rows) k no_constraint)
    last high =
        let at : i ≡ k = omega arith in
        let here : i < length rows = let s = ap length same in omega (arith, h, s) in
        let found : get_or (map constraint_of rows) i no_constraint ≡ constraint_of row = get_or-map constraint_of rows i row no_constraint here ∙ ap (λ (l : List Row). constraint_of (get_or l i row)) (sym same) ∙ ap constraint_of (sym is) in
        subst (λ n. Meets x (get_or (map constraint_of rows) n no_constraint)) at (subst (Meets x) (sym found) met)
