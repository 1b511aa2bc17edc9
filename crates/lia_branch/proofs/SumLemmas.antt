-- Sums that fit, and multipliers read off one term after another.
use Rattle.std.proofs.Common.{◌≡◌, ℕ, ◌+◌, ◌-◌, ◌<◌, ◌≤◌, ◌^◌, ℤ, pos, neg_ℤ, ◌-ℤ◌, ◌*ℤ◌, List, [], ◌∷◌, ◌++◌, length, slice_get, get_or, take, Some, Bool, true, false, cond, nat_lt, refl, ap, sym, ◌∙◌, subst, arith}
use Rattle.std.specs.Int.{int_rem_euclid}
use Rattle.std.proofs.lemmas.Int.{ints}
use Rattle.std.proofs.lemmas.Bool.Decides.{nat_tests}
use Rattle.std.proofs.lemmas.List.{take_more}
use Rattle.sv_linear.specs.Combining.{IsSymmetric}
use Rattle.sv_linear.specs.declared.column.Column.TheVariants.{Unknown}
use Rattle.sv_linear.specs.declared.form.Form.{Form}
use Rattle.lia_branch.specs.LeafMultipliers.{slack_multipliers, slack_remainders, sign_of}
use Rattle.sv_linear.specs.Rows.{HasSymmetricEntries}
use Rattle.sv_linear.specs.TermLaws.{term_here}

pub term_symmetric : (f : Form) (k : ℕ) (t : ℕ × ℤ) → HasSymmetricEntries f → slice_get f.coefficients k ≡ Some t → IsSymmetric t.1
term_symmetric f k t h e =
    let here = term_here 0 (2 ^ 32) f.coefficients k t f.ascending e in
    subst IsSymmetric here.is (h (Unknown t.0))

-- one term more
pub more_multipliers : (n : ℕ) (sign : ℤ) (ts : List (ℕ × ℤ)) (t : ℕ × ℤ) → slack_multipliers n sign (ts ++ t ∷ []) ≡ slack_multipliers n sign ts ++ slack_multipliers n sign (t ∷ [])
more_multipliers n sign [] t = refl
more_multipliers n sign (s ∷ ts) t = by (nat_lt s.0 n) (more_multipliers n sign ts t)
  where
    by : (b : Bool) → slack_multipliers n sign (ts ++ t ∷ []) ≡ slack_multipliers n sign ts ++ slack_multipliers n sign (t ∷ []) →
        cond b (slack_multipliers n sign (ts ++ t ∷ [])) ((s.0 - n, sign *ℤ s.1) ∷ slack_multipliers n sign (ts ++ t ∷ []))
        ≡ cond b (slack_multipliers n sign ts) ((s.0 - n, sign *ℤ s.1) ∷ slack_multipliers n sign ts) ++ slack_multipliers n sign (t ∷ [])
    by true e = e
    by false e = ap (λ l. (s.0 - n, sign *ℤ s.1) ∷ l) e

pub multipliers_kept : (n : ℕ) (sign : ℤ) (items : List (ℕ × ℤ)) (i : ℕ) → i < length items → (get_or items i (0, pos 0)).0 < n → slack_multipliers n sign (take (i + 1) items) ≡ slack_multipliers n sign (take i items)
multipliers_kept n sign items i h l =
    let t = get_or items i (0, pos 0) in
    let b : nat_lt t.0 n ≡ true = grind (arith, nat_tests) in
    ap (slack_multipliers n sign) (take_more items i (0, pos 0) h) ∙ more_multipliers n sign (take i items) t
    ∙ ap (λ k. slack_multipliers n sign (take i items) ++ cond k [] ((t.0 - n, sign *ℤ t.1) ∷ [])) b ∙ append_nothing (slack_multipliers n sign (take i items))
  where
    append_nothing : (xs : List (ℕ × ℤ)) → xs ++ [] ≡ xs
    append_nothing [] = refl
    append_nothing (x ∷ xs) = ap (λ l. x ∷ l) (append_nothing xs)

pub multipliers_taken : (n : ℕ) (sign : ℤ) (items : List (ℕ × ℤ)) (i : ℕ) → i < length items → n ≤ (get_or items i (0, pos 0)).0 →
    slack_multipliers n sign (take (i + 1) items) ≡ slack_multipliers n sign (take i items) ++ ((get_or items i (0, pos 0)).0 - n, sign *ℤ (get_or items i (0, pos 0)).1) ∷ []
multipliers_taken n sign items i h l =
    let t = get_or items i (0, pos 0) in
    let b : nat_lt t.0 n ≡ false = grind (arith, nat_tests) in
    ap (slack_multipliers n sign) (take_more items i (0, pos 0) h) ∙ more_multipliers n sign (take i items) t
    ∙ ap (λ k. slack_multipliers n sign (take i items) ++ cond k [] ((t.0 - n, sign *ℤ t.1) ∷ [])) b

pub negated_by : (z : ℤ) → pos 0 -ℤ z ≡ neg_ℤ (pos 1) *ℤ z
negated_by z = omega (arith, ints)

pub kept_by : (z : ℤ) → z ≡ pos 1 *ℤ z
kept_by z = omega (arith, ints)

pub multipliers_next : (n : ℕ) (negated : Bool) (items : List (ℕ × ℤ)) (i : ℕ) (before after : List (ℕ × ℤ)) (z : ℤ) → i < length items → n ≤ (get_or items i (0, pos 0)).0 → before ≡ slack_multipliers n (sign_of negated) (take i items) →
    after ≡ before ++ ((get_or items i (0, pos 0)).0 - n, z) ∷ [] → z ≡ sign_of negated *ℤ (get_or items i (0, pos 0)).1 → after ≡ slack_multipliers n (sign_of negated) (take (i + 1) items)
multipliers_next n negated items i before after z h l b a e =
    let t = get_or items i (0, pos 0) in
    a ∙ ap (λ ms. ms ++ (t.0 - n, z) ∷ []) b ∙ ap (λ w. slack_multipliers n (sign_of negated) (take i items) ++ (t.0 - n, w) ∷ []) e
    ∙ sym (multipliers_taken n (sign_of negated) items i h l)

more_remainders : (n : ℕ) (d : ℤ) (ts : List (ℕ × ℤ)) (t : ℕ × ℤ) → slack_remainders n d (ts ++ t ∷ []) ≡ slack_remainders n d ts ++ slack_remainders n d (t ∷ [])
more_remainders n d [] t = refl
more_remainders n d (s ∷ ts) t = by (nat_lt s.0 n) (more_remainders n d ts t)
  where
    by : (b : Bool) → slack_remainders n d (ts ++ t ∷ []) ≡ slack_remainders n d ts ++ slack_remainders n d (t ∷ []) →
        cond b (slack_remainders n d (ts ++ t ∷ [])) ((s.0 - n, int_rem_euclid s.1 d) ∷ slack_remainders n d (ts ++ t ∷ []))
        ≡ cond b (slack_remainders n d ts) ((s.0 - n, int_rem_euclid s.1 d) ∷ slack_remainders n d ts) ++ slack_remainders n d (t ∷ [])
    by true e = e
    by false e = ap (λ l. (s.0 - n, int_rem_euclid s.1 d) ∷ l) e

append_none : (xs : List (ℕ × ℤ)) → xs ++ [] ≡ xs
append_none [] = refl
append_none (x ∷ xs) = ap (λ l. x ∷ l) (append_none xs)

pub remainders_kept : (n : ℕ) (d : ℤ) (items : List (ℕ × ℤ)) (i : ℕ) → i < length items → (get_or items i (0, pos 0)).0 < n → slack_remainders n d (take (i + 1) items) ≡ slack_remainders n d (take i items)
remainders_kept n d items i h l =
    let t = get_or items i (0, pos 0) in
    let b : nat_lt t.0 n ≡ true = grind (arith, nat_tests) in
    ap (slack_remainders n d) (take_more items i (0, pos 0) h) ∙ more_remainders n d (take i items) t
    ∙ ap (λ k. slack_remainders n d (take i items) ++ cond k [] ((t.0 - n, int_rem_euclid t.1 d) ∷ [])) b ∙ append_none (slack_remainders n d (take i items))

pub remainders_next : (n : ℕ) (d : ℤ) (items : List (ℕ × ℤ)) (i : ℕ) (before after : List (ℕ × ℤ)) (z : ℤ) → i < length items → n ≤ (get_or items i (0, pos 0)).0 → before ≡ slack_remainders n d (take i items) →
    after ≡ before ++ ((get_or items i (0, pos 0)).0 - n, z) ∷ [] → z ≡ int_rem_euclid (get_or items i (0, pos 0)).1 d → after ≡ slack_remainders n d (take (i + 1) items)
remainders_next n d items i before after z h l b a e =
    let t = get_or items i (0, pos 0) in
    let k : nat_lt t.0 n ≡ false = grind (arith, nat_tests) in
    a ∙ ap (λ ms. ms ++ (t.0 - n, z) ∷ []) b ∙ ap (λ w. slack_remainders n d (take i items) ++ (t.0 - n, w) ∷ []) e
    ∙ sym (ap (slack_remainders n d) (take_more items i (0, pos 0) h) ∙ more_remainders n d (take i items) t
    ∙ ap (λ m. slack_remainders n d (take i items) ++ cond m [] ((t.0 - n, int_rem_euclid t.1 d) ∷ [])) k)
