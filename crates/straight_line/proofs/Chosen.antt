-- Terms by other numbers of their unknowns.
use Rattle.std.proofs.Common.{◌≡◌, ◌≢◌, refl, sym, ap, ◌∙◌, subst, ℕ, zero, suc, ◌+◌, ◌^◌, ◌<◌, ◌≤◌, inl, inr, ℤ, pos, ◌+ℤ◌, Bool, true, false, List, [], ◌∷◌, ◌++◌, length, get_or, take, Option, Some, None, unsigned_abs, eqb, cond, arith, take_all}
use Rattle.std.proofs.Math.Seq.{take-suc}
use Rattle.std.proofs.lemmas.Bool.{cases_eq, cases_lt, eq-eqb, eqb-true}
use Rattle.sv_linear.specs.Terms.{AscendsWithin, coefficient}
use Rattle.std.specs.Prelude.{slice_get}
use Rattle.std.specs.List.{AllZip}
use Rattle.std.proofs.lemmas.Option.{get_or_from_slice_get}
use Rattle.sv_list.specs.Lists.{AllZip-push}
use Rattle.sv_linear.specs.TermLaws.{passed}
use Rattle.sv_linear.specs.declared.row.Row.{Row}
use Rattle.sv_linear.proofs.Ascending.{AscendsWithin-append}
use Rattle.straight_line.specs.Columns.{AreNumbersWithin, IsRenumberedRow, Rises, chosen, with_term}

-- the terms before one of them
pub taken_within : (low high : ℕ) (ts : List (ℕ × ℤ)) (i : ℕ) (d : ℕ × ℤ) → AscendsWithin low high ts → i < length ts → AscendsWithin low (get_or ts i d).0 (take i ts)
taken_within low high [] i d a l = absurd (omega arith)
taken_within low high (t ∷ ts) zero d a l = a.0
taken_within low high (t ∷ ts) (suc i) d a l = (a.0, (a.1.0, taken_within (t.0 + 1) high ts i d a.1.1 (omega arith)))

pub term_not_zero : (low high : ℕ) (ts : List (ℕ × ℤ)) (i : ℕ) (d : ℕ × ℤ) → AscendsWithin low high ts → i < length ts → (get_or ts i d).1 ≢ pos 0
term_not_zero low high [] i d a l = absurd (omega arith)
term_not_zero low high (t ∷ ts) zero d a l = λ e. let h = a.1.0 in let z : unsigned_abs t.1 ≡ 0 = ap unsigned_abs e in absurd (omega arith)
term_not_zero low high (t ∷ ts) (suc i) d a l = term_not_zero (t.0 + 1) high ts i d a.1.1 (omega arith)

module _ (base : ℕ) (numbers : List (Option ℕ)) (rising : Rises numbers) where
  above : (low high : ℕ) (ts : List (ℕ × ℤ)) → AscendsWithin low high ts → low ≤ high
  above low high [] a = a
  above low high (t ∷ ts) a = let r = above (t.0 + 1) high ts a.1.1 in let m = a.0 in omega arith

  -- the numbers of unknowns from low on and below high lie from bottom on and below top
  abbrev pub Lie : ℕ → ℕ → ℕ → ℕ → Type 0
  Lie low high bottom top = (u k : ℕ) → low ≤ u → u < high → get_or numbers u None ≡ Some k → (bottom ≤ base + k) × (base + k < top)

  by_number : (low high bottom top : ℕ) (t : ℕ × ℤ) (ts : List (ℕ × ℤ)) → low ≤ t.0 → 0 < unsigned_abs t.1 → t.0 < high → bottom ≤ top → Lie low high bottom top → ((next : ℕ) → next ≤ top → Lie (t.0 + 1) high next top → AscendsWithin next top (chosen base numbers ts)) → (o : Option ℕ) → get_or numbers t.0 None ≡ o → AscendsWithin bottom top (with_term base o t.1 (chosen base numbers ts))
  by_number low high bottom top t ts l n h b f rec None e = rec bottom b (λ u k m g q. f u k (omega arith) g q)
  by_number low high bottom top t ts l n h b f rec (Some k) e =
      let r = f t.0 k l h e in
      let c = r.1 in
      (r.0, (n, rec ((base + k) + 1) (omega arith) (λ u j m g q. let s = rising t.0 u k j (omega arith) e q in let v = f u j (omega arith) g q in (omega arith, v.1))))

  pub chosen_within : (low high bottom top : ℕ) (ts : List (ℕ × ℤ)) → AscendsWithin low high ts → bottom ≤ top → Lie low high bottom top → AscendsWithin bottom top (chosen base numbers ts)
  chosen_within low high bottom top [] a l f = l
  chosen_within low high bottom top (t ∷ ts) a l f =
      let r = above (t.0 + 1) high ts a.1.1 in
      by_number low high bottom top t ts a.0 a.1.0 (omega arith) l f (λ next m g. chosen_within (t.0 + 1) high next top ts a.1.1 m g) (get_or numbers t.0 None) refl

  pub chosen_end : (ts : List (ℕ × ℤ)) (t : ℕ × ℤ) → chosen base numbers (ts ++ t ∷ []) ≡ chosen base numbers ts ++ with_term base (get_or numbers t.0 None) t.1 []
  chosen_end [] t = refl
  chosen_end (s ∷ ts) t = ap (with_term base (get_or numbers s.0 None) s.1) (chosen_end ts t) ∙ by_one (get_or numbers s.0 None) (chosen base numbers ts) (with_term base (get_or numbers t.0 None) t.1 [])
    where
      by_one : (o : Option ℕ) (xs ys : List (ℕ × ℤ)) → with_term base o s.1 (xs ++ ys) ≡ with_term base o s.1 xs ++ ys
      by_one None xs ys = refl
      by_one (Some k) xs ys = refl

  pub chosen_more : (ts : List (ℕ × ℤ)) (i : ℕ) (d : ℕ × ℤ) → i < length ts → chosen base numbers (take (i + 1) ts) ≡ chosen base numbers (take i ts) ++ with_term base (get_or numbers (get_or ts i d).0 None) (get_or ts i d).1 []
  chosen_more ts i d l = let q : i + 1 ≡ suc i = omega arith in ap (λ m. chosen base numbers (take m ts)) q ∙ ap (chosen base numbers) (take-suc ts i d l) ∙ chosen_end (take i ts) (get_or ts i d)

  -- what was added before the i-th term is below its number
  pub chosen_below : (old : List (ℕ × ℤ)) (ts : List (ℕ × ℤ)) (i k : ℕ) (d : ℕ × ℤ) → AscendsWithin 0 base old → AscendsWithin 0 (2 ^ 32) ts → i < length ts → get_or numbers (get_or ts i d).0 None ≡ Some k → AscendsWithin 0 (base + k) (old ++ chosen base numbers (take i ts))
  chosen_below old ts i k d a b l e = AscendsWithin-append 0 base (base + k) old (chosen base numbers (take i ts)) a (chosen_within 0 (get_or ts i d).0 base (base + k) (take i ts) (taken_within 0 (2 ^ 32) ts i d b l) (omega arith) (λ u j m h q. let s = rising u (get_or ts i d).0 j k h q e in (omega arith, omega arith)))

pub chosen_all : (numbers : List (Option ℕ)) → Rises numbers → (n : ℕ) → AreNumbersWithin n numbers → (ts : List (ℕ × ℤ)) → AscendsWithin 0 (2 ^ 32) ts → AscendsWithin 0 n ([] ++ chosen 0 numbers ts)
chosen_all numbers rising n within ts a = chosen_within 0 numbers rising 0 (2 ^ 32) 0 n ts a (omega arith) (λ u k m h q. let s = within u k q in (omega arith, omega arith))

pub renumbered_more : (base : ℕ) (integers registers : List (Option ℕ)) (rows renumbered renumbered' : List Row) (k : ℕ) (row next : Row) → k < length rows → slice_get rows k ≡ Some row → IsRenumberedRow base integers registers row next → renumbered' ≡ renumbered ++ next ∷ [] → AllZip (IsRenumberedRow base integers registers) (take k rows) renumbered → AllZip (IsRenumberedRow base integers registers) (take (k + 1) rows) renumbered'
renumbered_more base integers registers rows renumbered renumbered' k row next l at r e a =
    let q : k + 1 ≡ suc k = omega arith in
    let parts : take (k + 1) rows ≡ take k rows ++ row ∷ [] = ap (λ m. take m rows) q ∙ take-suc rows k row l ∙ ap (λ z. take k rows ++ z ∷ []) (get_or_from_slice_get rows k row row at) in
    subst (λ z. AllZip (IsRenumberedRow base integers registers) z renumbered') (sym parts) (subst (λ z. AllZip (IsRenumberedRow base integers registers) (take k rows ++ row ∷ []) z) (sym e) (AllZip-push (IsRenumberedRow base integers registers) (take k rows) renumbered row next a r))

pub renumbered_all : (base : ℕ) (integers registers : List (Option ℕ)) (rows renumbered : List Row) (k : ℕ) → length rows ≤ k → AllZip (IsRenumberedRow base integers registers) (take k rows) renumbered → AllZip (IsRenumberedRow base integers registers) rows renumbered
renumbered_all base integers registers rows renumbered k l a = subst (λ z. AllZip (IsRenumberedRow base integers registers) z renumbered) (take_all k rows l) a

-- the coefficient at a number is that of its unknown
module _ (base : ℕ) (numbers : List (Option ℕ)) (rising : Rises numbers) (u k : ℕ) (at : get_or numbers u None ≡ Some k) where
  other_number : (w j : ℕ) → get_or numbers w None ≡ Some j → eqb (base + j) (base + k) ≡ eqb w u
  other_number w j e = by_tests (eqb (base + j) (base + k)) (eqb w u) refl refl
    where
      by_tests : (a b : Bool) → eqb (base + j) (base + k) ≡ a → eqb w u ≡ b → a ≡ b
      by_tests true true p q = refl
      by_tests false false p q = refl
      by_tests true false p q = elim (cases_eq w u) [
        | inl s ↦ sym (eq-eqb w u s) ∙ q
        | inr s ↦ let r = eqb-true (base + j) (base + k) p in elim (cases_lt w u) [
          | inl l ↦ let m = rising w u j k l e at in absurd (omega arith)
          | inr l ↦ let m = rising u w k j (omega arith) at e in absurd (omega arith)
        ]
      ]
      by_tests false true p q =
          let s = eqb-true w u q in
          let r : Some j ≡ Some k = sym e ∙ ap (λ z. get_or numbers z None) s ∙ at in
          let o : j ≡ k = cc in
          sym p ∙ eq-eqb (base + j) (base + k) (omega arith)

  one_number : (t : ℕ × ℤ) (ts : List (ℕ × ℤ)) (o : Option ℕ) → get_or numbers t.0 None ≡ o → coefficient (base + k) (chosen base numbers ts) ≡ coefficient u ts → coefficient (base + k) (with_term base o t.1 (chosen base numbers ts)) ≡ cond (eqb t.0 u) t.1 (pos 0) +ℤ coefficient u ts
  one_number t ts None e h = elim (cases_eq t.0 u) [
    | inl s ↦ absurd (let f : None ≡ Some k = sym e ∙ ap (λ z. get_or numbers z None) s ∙ at in cc)
    | inr s ↦ h ∙ sym (passed u t ts (eqb t.0 u) (not_same t.0 u s))
  ]
    where
      not_same : (a b : ℕ) → (a ≡ b → ⊥) → eqb a b ≡ false
      not_same a b n = by_test (eqb a b) refl
        where
          by_test : (c : Bool) → eqb a b ≡ c → c ≡ false
          by_test true q = absurd (n (eqb-true a b q))
          by_test false q = refl
  one_number t ts (Some j) e h = ap (λ b. cond b t.1 (pos 0) +ℤ coefficient (base + k) (chosen base numbers ts)) (other_number t.0 j e) ∙ ap (λ z. cond (eqb t.0 u) t.1 (pos 0) +ℤ z) h

  pub chosen_coefficient : (ts : List (ℕ × ℤ)) → coefficient (base + k) (chosen base numbers ts) ≡ coefficient u ts
  chosen_coefficient [] = refl
  chosen_coefficient (t ∷ ts) = one_number t ts (get_or numbers t.0 None) refl (chosen_coefficient ts)
