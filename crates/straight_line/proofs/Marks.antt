-- Marks of the unknowns of terms.
use Rattle.std.proofs.Common.{◌≡◌, refl, sym, ap, ◌∙◌, subst, ℕ, zero, suc, ◌+◌, ◌<◌, ◌≤◌, inl, inr, ℤ, pos, negsuc, Bool, true, false, ◌||◌, not, List, [], ◌∷◌, ◌++◌, length, get_or, replicate, take, Some, unsigned_abs, eqb, arith, get_or-set_same, get_or-set_other, take_all}
use Rattle.std.specs.Prelude.{slice_get, slice_set}
use Rattle.std.specs.Cmp.{int_cmp_is}
use Rattle.std.specs.Ordering.{int_eq, is_eq}
use Rattle.std.specs.declared.cmp.Ordering.TheVariants.{Greater}
use Rattle.std.proofs.Math.Seq.{take-suc}
use Rattle.std.proofs.lemmas.Int.{ints}
use Rattle.std.proofs.lemmas.Bool.{cases_eq, or_left}
use Rattle.std.proofs.lemmas.Bool.Decides.{nat_tests}
use Rattle.std.proofs.lemmas.List.{get_or-replicate, length-replicate, length-set}
use Rattle.std.proofs.lemmas.List.Folds.{list_any-append}
use Rattle.std.proofs.lemmas.Option.{get_or_from_slice_get}
use Rattle.sv_list.specs.Bools.{or-false}
use Rattle.sv_linear.specs.TermLaws.{passed, term_here}
use Rattle.sv_linear.specs.Terms.{AscendsWithin}
use Rattle.sv_linear.specs.declared.row.Row.{Row}
use Rattle.straight_line.specs.Columns.{has_entry, has_term, marked_by}

marked_end : (ts : List (ℕ × ℤ)) (t : ℕ × ℤ) (xs : List Bool) → marked_by (ts ++ t ∷ []) xs ≡ slice_set (marked_by ts xs) t.0 true
marked_end [] t xs = refl
marked_end (s ∷ ts) t xs = marked_end ts t (slice_set xs s.0 true)

pub marked_more : (ts : List (ℕ × ℤ)) (k : ℕ) (d : ℕ × ℤ) (xs : List Bool) → k < length ts → marked_by (take (k + 1) ts) xs ≡ slice_set (marked_by (take k ts) xs) (get_or ts k d).0 true
marked_more ts k d xs l = let q : k + 1 ≡ suc k = omega arith in ap (λ m. marked_by (take m ts) xs) q ∙ ap (λ z. marked_by z xs) (take-suc ts k d l) ∙ marked_end (take k ts) (get_or ts k d) xs

pub marked_count : (ts : List (ℕ × ℤ)) (xs : List Bool) → length (marked_by ts xs) ≡ length xs
marked_count [] xs = refl
marked_count (t ∷ ts) xs = marked_count ts (slice_set xs t.0 true) ∙ length-set xs t.0 true

not_zero : (z : ℤ) → 0 < unsigned_abs z → not (int_eq z (pos 0)) ≡ true
not_zero (pos zero) l = absurd (omega arith)
not_zero (pos (suc n)) l = ap (λ o. not (is_eq o)) (sym (int_cmp_is (pos (suc n)) (pos 0) Greater (omega (arith, ints))))
not_zero (negsuc n) l = refl

or_true : (b : Bool) → (b || true) ≡ true
or_true true = refl
or_true false = refl

pub marked_exact : (low high : ℕ) (ts : List (ℕ × ℤ)) (xs : List Bool) (u : ℕ) → AscendsWithin low high ts → u < length xs → get_or (marked_by ts xs) u false ≡ (get_or xs u false || has_term u ts)
marked_exact low high [] xs u a l = sym (or-false (get_or xs u false))
marked_exact low high (t ∷ ts) xs u a l =
    marked_exact (t.0 + 1) high ts (slice_set xs t.0 true) u a.1.1 (subst (λ n. u < n) (sym (length-set xs t.0 true)) l)
    ∙ elim (cases_eq u t.0) [
      | inl e ↦
          let h = term_here low high (t ∷ ts) 0 t a refl in
          or_left (get_or (slice_set xs t.0 true) u false) (has_term u ts) (ap (λ k. get_or (slice_set xs t.0 true) k false) e ∙ get_or-set_same xs t.0 true false (subst (λ k. k < length xs) e l))
          ∙ sym (ap (λ b. get_or xs u false || b) (ap (λ k. has_term k (t ∷ ts)) e ∙ ap (λ z. not (int_eq z (pos 0))) h.is ∙ not_zero t.1 h.not_zero) ∙ or_true (get_or xs u false))
      | inr n ↦
          let other : eqb t.0 u ≡ false = grind (arith, nat_tests) in
          ap (λ b. b || has_term u ts) (get_or-set_other xs t.0 u true false n)
          ∙ ap (λ z. get_or xs u false || not (int_eq z (pos 0))) (sym (passed u t ts (eqb t.0 u) other))
    ]

-- the columns of the first k rows
pub record AreColumns (unknowns : ℕ) (rows : List Row) (k : ℕ) (used : List Bool) : Type 0 where
  pub count : length used ≡ unknowns
  pub exact : (u : ℕ) → u < unknowns → get_or used u false ≡ has_entry (take k rows) u

pub columns_none : (unknowns : ℕ) (rows : List Row) (used : List Bool) → used ≡ replicate unknowns false → AreColumns unknowns rows 0 used
columns_none unknowns rows used e = record {
  count = ap length e ∙ length-replicate unknowns false;
  exact = λ u l. ap (λ z. get_or z u false) e ∙ get_or-replicate unknowns u false false l;
}

pub columns_more : (unknowns : ℕ) (rows : List Row) (k : ℕ) (r : Row) (used used' : List Bool) → k < length rows → slice_get rows k ≡ Some r → AreColumns unknowns rows k used → length used' ≡ length used → ((u : ℕ) → u < length used → get_or used' u false ≡ (get_or used u false || has_term u r.form.coefficients)) → AreColumns unknowns rows (k + 1) used'
columns_more unknowns rows k r used used' l at a c f = record {
  count = c ∙ a.count;
  exact = λ u h.
      let q : k + 1 ≡ suc k = omega arith in
      let e : get_or rows k r ≡ r = get_or_from_slice_get rows k r r at in
      let parts : take (k + 1) rows ≡ take k rows ++ r ∷ [] = ap (λ m. take m rows) q ∙ take-suc rows k r l ∙ ap (λ z. take k rows ++ z ∷ []) e in
      f u (let n = a.count in omega arith)
      ∙ ap (λ b. b || has_term u r.form.coefficients) (a.exact u h)
      ∙ ap (λ b. has_entry (take k rows) u || b) (sym (or-false (has_term u r.form.coefficients)))
      ∙ sym (ap (λ z. has_entry z u) parts ∙ list_any-append (λ (z : Row). has_term u z.form.coefficients) (take k rows) (r ∷ []));
}

pub columns_all : (unknowns : ℕ) (rows : List Row) (k : ℕ) (used : List Bool) → length rows ≤ k → AreColumns unknowns rows k used → (u : ℕ) → u < unknowns → get_or used u false ≡ has_entry rows u
columns_all unknowns rows k used l a u h = a.exact u h ∙ ap (λ z. has_entry z u) (take_all k rows l)
