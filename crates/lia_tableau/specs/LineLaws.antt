-- The lines of a tableau: where their quantities stand, that a place among the rows is that of one row, and that a line is
-- the sum of the rows by its slacks.
use Rattle.std.proofs.Common.{◌≡◌, ◌≢◌, ℕ, zero, suc, ◌+◌, ◌-◌, ◌<◌, ◌≤◌, ◌^◌, ℤ, pos, neg_ℤ, ◌+ℤ◌, ◌-ℤ◌, ◌*ℤ◌, List, [], ◌∷◌, length, slice_get, take, Option, Some, None, unsigned_abs, true, false, cond, eqb, nat_lt, ◌⊎◌, ⊎_elim, inl, inr, refl, ap, sym, ◌∙◌, subst, arith}
use Rattle.std.specs.List.{count_by}
use Rattle.std.proofs.lemmas.Int.{ints}
use Rattle.std.proofs.lemmas.Bool.{cases_lt}
use Rattle.std.proofs.lemmas.Bool.Decides.{nat_tests}
use Rattle.std.proofs.lemmas.List.Sums.{sum_by-cons}
use Rattle.sv_list.specs.Lists.{slice_get-some}
use Rattle.sv_linear.specs.Terms.{coefficient, terms_value, AscendsWithin}
use Rattle.sv_linear.specs.TermLaws.{EachTerm, rest_of, one_value, term_here}
use Rattle.sv_linear.specs.Forms.{form_value}
use Rattle.sv_linear.specs.Integers.{mul-add, add-mul, mul-neg, zero_times}
use Rattle.sv_linear.specs.declared.row.Row.{Row}
use Rattle.lia_tableau.specs.Bases.{is_basic, IsLine, IsOutside, IsRowAt, IsTableau, basics_below}
use Rattle.lia_tableau.specs.BasicPoints.{IsPoint}
use Rattle.lia_tableau.specs.Shown.{Breaks}
use Rattle.lia_tableau.specs.declared.bound.QuantityBound.{QuantityBound}
use Rattle.lia_tableau.specs.declared.bound.QuantityBound.TheVariants.{Free, NotNegative, Fixed}
use Rattle.sv_linear.specs.declared.form.Form.{Form}
use Rattle.lia_tableau.specs.Quantities.{RowsHold, slack_sum}
use Rattle.lia_tableau.specs.declared.standing.Standing.{Standing}
use Rattle.lia_tableau.specs.declared.standing.Standing.TheVariants.{Outside, Basic}
use Rattle.sv_linear.specs.Rows.{NameUnknowns}

pub same_line : (ls : List Standing) (q : ℕ) (f g : Row) → IsLine ls q f → IsLine ls q g → f ≡ g
same_line ls q f g a b = cc

pub not_both : (ls : List Standing) (q : ℕ) (f : Row) → IsLine ls q f → IsOutside ls q → ⊥
not_both ls q f a b = absurd (cc)

pub standing_of : (ls : List Standing) (q : ℕ) → q < length ls → IsOutside ls q ⊎ ((f : Row) × IsLine ls q f)
standing_of [] q p = absurd (omega arith)
standing_of (Outside ∷ ls) zero p = inl refl
standing_of (Basic f ∷ ls) zero p = inr (f, refl)
standing_of (l ∷ ls) (suc q) p = standing_of ls q (omega arith)

-- a row holds the quantity of each of its terms
pub held : (f : Row) (k : ℕ) (s : ℕ × ℤ) → slice_get f.form.coefficients k ≡ Some s → coefficient s.0 f.form.coefficients ≢ pos 0
held f k s e z =
    let h = term_here 0 (2 ^ 32) f.form.coefficients k s f.form.ascending e in
    let a = ap unsigned_abs (sym h.is ∙ z) in
    absurd (omega (arith, h.not_zero))

module _ (n : ℕ) (rows : List Row) (lines : List Standing) (t : IsTableau n rows lines) where
  -- where a quantity of a line stands
  pub other_outside : (q : ℕ) (f : Row) → IsLine lines q f → (p : ℕ) → p ≢ q → coefficient p f.form.coefficients ≢ pos 0 → IsOutside lines p
  other_outside q f l p m z =
      ⊎_elim
      (λ low. ⊎_elim (λ o. o) (λ g. absurd (z ((t.line q f l).others p g.0 g.1 m))) (standing_of lines p low))
      (λ high. absurd (z ((t.line q f l).within p high)))
      (cases_lt p (length lines))

  pub term_within : (q : ℕ) (f : Row) → IsLine lines q f → EachTerm (λ s. s.0 < length lines) f.form.coefficients
  term_within q f l k s e = ⊎_elim (λ h. h) (λ h. absurd (held f k s e ((t.line q f l).within s.0 h))) (cases_lt s.0 (length lines))

  -- at the point of the basis each line is 0
  pub line_value : (x : ℕ → ℤ) (d : ℤ) → IsPoint lines x d → (q : ℕ) (f : Row) → IsLine lines q f → form_value x d f.form ≡ pos 0
  line_value x d p q f l =
      let a = one_value x q f.form.coefficients (λ k s e m. (p.value s.0).outside (other_outside q f l s.0 m (held f k s e))) in
      omega (arith, ints, a, (p.value q).basic f l)

abbrev weight : Standing → ℕ
weight s = cond (is_basic s) 1 0

pub place_within : (ls : List Standing) (q : ℕ) (f : Row) → IsLine ls q f → basics_below q ls < count_by is_basic ls
place_within [] q f e = absurd (cc)
place_within (Outside ∷ ls) zero f e = absurd (cc)
place_within (Basic g ∷ ls) zero f e = omega (arith, sum_by-cons weight (Basic g) ls)
place_within (l ∷ ls) (suc q) f e = let r = place_within ls q f e in omega (arith, sum_by-cons weight l (take q ls), sum_by-cons weight l ls, r)

same_place : (ls : List Standing) (p q : ℕ) (f g : Row) → IsLine ls p f → IsLine ls q g → basics_below p ls ≡ basics_below q ls → p ≡ q
same_place [] p q f g a b e = absurd (cc)
same_place (l ∷ ls) zero zero f g a b e = refl
same_place (Outside ∷ ls) zero (suc q) f g a b e = absurd (cc)
same_place (Basic h ∷ ls) zero (suc q) f g a b e = absurd (omega (arith, e, sum_by-cons weight (Basic h) (take q ls)))
same_place (Outside ∷ ls) (suc p) zero f g a b e = absurd (cc)
same_place (Basic h ∷ ls) (suc p) zero f g a b e = absurd (omega (arith, e, sum_by-cons weight (Basic h) (take p ls)))
same_place (l ∷ ls) (suc p) (suc q) f g a b e = ap suc (same_place ls p q f g a b (omega (arith, e, sum_by-cons weight l (take p ls), sum_by-cons weight l (take q ls))))

-- a place among the rows is that of one row
pub same_row : (ls : List Standing) (k p q : ℕ) (f g : Row) → IsRowAt ls k p f → IsRowAt ls k q g → (p ≡ q) × (f ≡ g)
same_row ls k p q f g a b =
    let e = same_place ls p q f g a.is_line b.is_line (a.place ∙ sym b.place) in
    let h : IsLine ls q f = subst (λ i. IsLine ls i f) e a.is_line in
    let m = b.is_line in
    (e, cc)

pub ends : (low high : ℕ) (ts : List (ℕ × ℤ)) → AscendsWithin low high ts → low ≤ high
ends low high [] h = h
ends low high (t ∷ ts) h = let more = ends (t.0 + 1) high ts h.1.1 in let front = h.0 in omega arith

module _ (n : ℕ) (rows : List Row) (x : ℕ → ℤ) (d : ℤ) where
  abbrev slot : Option Row → ℤ
  slot None = pos 0
  slot (Some r) = neg_ℤ (form_value x d r.form)

  -- the slack of each row takes what the row leaves
  abbrev pub extended : ℕ → ℤ
  extended q = cond (nat_lt q n) (x q) (slot (slice_get rows (q - n)))

  pub extended_low : (q : ℕ) → q < n → extended q ≡ x q
  extended_low q h = let t : nat_lt q n ≡ true = grind (arith, nat_tests) in ap (λ b. cond b (x q) (slot (slice_get rows (q - n)))) t

  extended_high : (q : ℕ) → n ≤ q → extended q ≡ slot (slice_get rows (q - n))
  extended_high q h = let t : nat_lt q n ≡ false = grind (arith, nat_tests) in ap (λ b. cond b (x q) (slot (slice_get rows (q - n)))) t

  pub extended_row : (q : ℕ) (r : Row) → n ≤ q → slice_get rows (q - n) ≡ Some r → extended q ≡ neg_ℤ (form_value x d r.form)
  extended_row q r h e = extended_high q h ∙ ap slot e

  low_value : (low : ℕ) (ts : List (ℕ × ℤ)) → AscendsWithin low n ts → terms_value extended ts ≡ terms_value x ts
  low_value low [] h = refl
  low_value low (t ∷ ts) h =
      let under = ends (t.0 + 1) n ts h.1.1 in
      let one = ap (λ z. t.1 *ℤ z) (extended_low t.0 (omega arith)) in
      omega (arith, ints, one, low_value (t.0 + 1) ts h.1.1)

  pub rows_hold : NameUnknowns n rows → RowsHold n rows extended d
  rows_hold w i r e =
      let a = low_value 0 r.form.coefficients (w i r e) in
      let same : (n + i) - n ≡ i = omega arith in
      let b = extended_row (n + i) r (omega arith) (ap (slice_get rows) same ∙ e) in
      omega (arith, ints, a, b)

  -- what one term adds to the sum of the rows
  abbrev one_sum : ℕ × ℤ → ℕ → List Row → ℤ
  one_sum t q [] = pos 0
  one_sum t q (r ∷ rs) = cond (eqb t.0 q) t.1 (pos 0) *ℤ (form_value x d r.form +ℤ x q) +ℤ one_sum t (suc q) rs

  sum_none : (q : ℕ) (rs : List Row) → slack_sum [] x d q rs ≡ pos 0
  sum_none q [] = refl
  sum_none q (r ∷ rs) = omega (arith, ints, sum_none (suc q) rs, zero_times (pos 0) (form_value x d r.form +ℤ x q) refl)

  sum_more : (t : ℕ × ℤ) (ts : List (ℕ × ℤ)) (q : ℕ) (rs : List Row) → slack_sum (t ∷ ts) x d q rs ≡ one_sum t q rs +ℤ slack_sum ts x d q rs
  sum_more t ts q [] = omega (arith, ints)
  sum_more t ts q (r ∷ rs) =
      omega (arith, ints, sum_more t ts (suc q) rs, add-mul (cond (eqb t.0 q) t.1 (pos 0)) (coefficient q ts) (form_value x d r.form +ℤ x q))

  one_low : (t : ℕ × ℤ) (q : ℕ) (rs : List Row) → t.0 < q → one_sum t q rs ≡ pos 0
  one_low t q [] h = refl
  one_low t q (r ∷ rs) h =
      let e : eqb t.0 q ≡ false = grind (arith, nat_tests) in
      let z = ap (λ b. cond b t.1 (pos 0) *ℤ (form_value x d r.form +ℤ x q)) e in
      omega (arith, ints, z, zero_times (pos 0) (form_value x d r.form +ℤ x q) refl, one_low t (suc q) rs (omega arith))

  one_here : (t : ℕ × ℤ) (q k : ℕ) (rs : List Row) (r : Row) → t.0 ≡ q + k → slice_get rs k ≡ Some r → one_sum t q rs ≡ t.1 *ℤ (form_value x d r.form +ℤ x t.0)
  one_here t q k [] r h e = absurd (cc)
  one_here t q zero (s ∷ rs) r h e =
      let same : s ≡ r = cc in
      let b : eqb t.0 q ≡ true = grind (arith, nat_tests) in
      let i : q ≡ t.0 = omega arith in
      let z = ap (λ w. cond w t.1 (pos 0) *ℤ (form_value x d s.form +ℤ x q)) b ∙ ap (λ (w : Row). t.1 *ℤ (form_value x d w.form +ℤ x q)) same ∙ ap (λ w. t.1 *ℤ (form_value x d r.form +ℤ x w)) i in
      omega (arith, ints, z, one_low t (suc q) rs (omega arith))
  one_here t q (suc k) (s ∷ rs) r h e =
      let b : eqb t.0 q ≡ false = grind (arith, nat_tests) in
      let z = ap (λ w. cond w t.1 (pos 0) *ℤ (form_value x d s.form +ℤ x q)) b in
      omega (arith, ints, z, zero_times (pos 0) (form_value x d s.form +ℤ x q) refl, one_here t (suc q) k rs r (omega arith) e)

  one_is : (t : ℕ × ℤ) → t.0 < n + length rows → one_sum t n rows ≡ t.1 *ℤ x t.0 -ℤ t.1 *ℤ extended t.0
  one_is t h =
      ⊎_elim
      (λ low. let e = ap (λ w. t.1 *ℤ w) (extended_low t.0 low) in omega (arith, ints, one_low t n rows low, e))
      (λ high.
      let r = slice_get-some rows (t.0 - n) (omega arith) in
      let e = ap (λ w. t.1 *ℤ w) (extended_row t.0 r.0 high r.1) ∙ mul-neg t.1 (form_value x d r.0.form) in
      omega (arith, ints, one_here t n (t.0 - n) rows r.0 (omega arith) r.1, e, mul-add t.1 (form_value x d r.0.form) (x t.0)))
      (cases_lt t.0 n)

  sum_is : (ts : List (ℕ × ℤ)) → EachTerm (λ t. t.0 < n + length rows) ts → slack_sum ts x d n rows ≡ terms_value x ts -ℤ terms_value extended ts
  sum_is [] h = omega (arith, ints, sum_none n rows)
  sum_is (t ∷ ts) h =
      omega (arith, ints, sum_more t ts n rows, one_is t (h zero t refl), sum_is ts (rest_of (λ s. s.0 < n + length rows) t ts h))

-- the slacks' coefficients are the multipliers by which the rows give a line
pub line_is_sum : (n : ℕ) (rows : List Row) (lines : List Standing) (t : IsTableau n rows lines) → NameUnknowns n rows → (q : ℕ) (f : Row) → IsLine lines q f →
    (x : ℕ → ℤ) (d : ℤ) → form_value x d f.form ≡ slack_sum f.form.coefficients x d n rows
line_is_sum n rows lines t w q f l x d =
    let zero_line = (t.same (extended n rows x d) d).1 (rows_hold n rows x d w) q f l in
    let all = sum_is n rows x d f.form.coefficients (λ k s e. subst (λ m. s.0 < m) t.size (term_within n rows lines t q f l k s e)) in
    omega (arith, ints, zero_line, all)

pub broken_constant : (b : QuantityBound) (f : Form) → Breaks b f → f.constant ≢ pos 0
broken_constant Free f h = absurd h
broken_constant NotNegative f h = λ e. omega (arith, ints, h)
broken_constant Fixed f h = h
