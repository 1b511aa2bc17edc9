-- A line of a tableau is the sum of the rows and their slacks, each as often as its slack stands in the line.
use Rattle.std.proofs.Common.{◌≡◌, ℕ, zero, ◌+◌, ◌-◌, ◌<◌, ◌≤◌, ℤ, pos, neg_ℤ, ◌+ℤ◌, ◌-ℤ◌, ◌*ℤ◌, ◌≤ℤ◌, List, [], ◌∷◌, length, slice_get, get_or, Some, Bool, true, false, cond, IsTrue, nat_lt, ◌⊎◌, refl, ap, sym, ◌∙◌, subst, arith}
use Rattle.std.proofs.lemmas.Int.{ints}
use Rattle.std.proofs.lemmas.Bool.Decides.{nat_tests}
use Rattle.std.proofs.lemmas.Option.{get_or_from_slice_get}
use Rattle.sv_list.specs.Lists.{slice_get-some}
use Rattle.sv_linear.specs.Terms.{terms_value, AscendsWithin}
use Rattle.sv_linear.specs.Forms.{form_value}
use Rattle.sv_linear.specs.Integers.{mul-add, mul-neg, mul_assoc}
use Rattle.sv_linear.specs.declared.row.Row.{Row}
use Rattle.farkas_check.specs.Systems.{Constraint, no_constraint}
use Rattle.farkas_check.specs.Closings.{combined, Allowed}
use Rattle.lia_tableau.specs.Bases.{IsLine, IsTableau}
use Rattle.lia_tableau.specs.declared.standing.Standing.{Standing}
use Rattle.lia_branch.specs.Nodes.{IsRowOf}
use Rattle.lia_branch.specs.LeafMultipliers.{slack_multipliers, unknown_terms, AreRowsOf}
use Rattle.sv_linear.specs.Rows.{NameUnknowns}
use Rattle.sv_linear.specs.TermLaws.{EachTerm, rest_of}
use Rattle.lia_tableau.specs.LineLaws.{extended, extended_row, rows_hold}

module _ (n : ℕ) (rows : List Row) (base : ℕ → ℤ) (d : ℤ) where
  module _ (V : Constraint → ℤ) (cs : List Constraint) (sign : ℤ) where
    abbrev TakesSlack : ℕ × ℤ → Type 0
    TakesSlack t = n ≤ t.0 → V (get_or cs (t.0 - n) no_constraint) ≡ neg_ℤ ((extended n rows base d) t.0)

    shifted : (a u t : ℤ) → u -ℤ t ≡ (a +ℤ u) -ℤ (a +ℤ t)
    shifted a u t = omega (arith, ints)

    taken : (b v x u t : ℤ) → v ≡ neg_ℤ x → (sign *ℤ b) *ℤ v +ℤ sign *ℤ (u -ℤ t) ≡ sign *ℤ (u -ℤ (b *ℤ x +ℤ t))
    taken b v x u t e =
        let z : u -ℤ (b *ℤ x +ℤ t) ≡ (u -ℤ t) +ℤ neg_ℤ (b *ℤ x) = omega (arith, ints) in
        let y = ap (λ w. (sign *ℤ b) *ℤ w) e ∙ mul-neg (sign *ℤ b) x ∙ ap neg_ℤ (mul_assoc sign b x) in
        let r = ap (λ w. sign *ℤ w) z ∙ mul-add sign (u -ℤ t) (neg_ℤ (b *ℤ x)) ∙ ap (λ w. sign *ℤ (u -ℤ t) +ℤ w) (mul-neg sign (b *ℤ x)) in
        omega (arith, ints, y, r)

    combined_slacks : (ts : List (ℕ × ℤ)) → EachTerm TakesSlack ts →
        combined V cs (slack_multipliers n sign ts) ≡ sign *ℤ (terms_value (extended n rows base d) (unknown_terms n ts) -ℤ terms_value (extended n rows base d) ts)
    combined_slacks [] h = let z : pos 0 -ℤ pos 0 ≡ pos 0 = omega (arith, ints) in sym (ap (λ w. sign *ℤ w) z ∙ omega (arith, ints))
    combined_slacks (t ∷ ts) h = by (nat_lt t.0 n) refl (combined_slacks ts (rest_of TakesSlack t ts h))
      where
        by : (b : Bool) → nat_lt t.0 n ≡ b → combined V cs (slack_multipliers n sign ts) ≡ sign *ℤ (terms_value (extended n rows base d) (unknown_terms n ts) -ℤ terms_value (extended n rows base d) ts) →
            combined V cs (cond b (slack_multipliers n sign ts) ((t.0 - n, sign *ℤ t.1) ∷ slack_multipliers n sign ts))
            ≡ sign *ℤ (terms_value (extended n rows base d) (cond b (t ∷ unknown_terms n ts) (unknown_terms n ts)) -ℤ (t.1 *ℤ (extended n rows base d) t.0 +ℤ terms_value (extended n rows base d) ts))
        by true e r = r ∙ ap (λ w. sign *ℤ w) (shifted (t.1 *ℤ (extended n rows base d) t.0) (terms_value (extended n rows base d) (unknown_terms n ts)) (terms_value (extended n rows base d) ts))
        by false e r =
            let high : n ≤ t.0 = grind (arith, nat_tests) in
            ap (λ w. (sign *ℤ t.1) *ℤ V (get_or cs (t.0 - n) no_constraint) +ℤ w) r
            ∙ taken t.1 (V (get_or cs (t.0 - n) no_constraint)) ((extended n rows base d) t.0) (terms_value (extended n rows base d) (unknown_terms n ts)) (terms_value (extended n rows base d) ts) (h zero t refl high)

-- what is asked of the multiplier of a row
abbrev pub IsTakenWell : ℕ → List Constraint → ℤ → ℕ × ℤ → Type 0
IsTakenWell n cs sign t = n ≤ t.0 → (t.0 - n < length cs) × (IsTrue (get_or cs (t.0 - n) no_constraint).equal ⊎ (pos 0 ≤ℤ (sign *ℤ t.1)))

pub allowed : (n : ℕ) (cs : List Constraint) (sign : ℤ) (low high : ℕ) (ts : List (ℕ × ℤ)) → AscendsWithin low high ts → EachTerm (IsTakenWell n cs sign) ts →
    Allowed (low - n) cs (slack_multipliers n sign ts)
allowed n cs sign low high [] a h = tt
allowed n cs sign low high (t ∷ ts) a h = by (nat_lt t.0 n) refl (allowed n cs sign (t.0 + 1) high ts a.1.1 (rest_of (IsTakenWell n cs sign) t ts h))
  where
    by : (b : Bool) → nat_lt t.0 n ≡ b → Allowed ((t.0 + 1) - n) cs (slack_multipliers n sign ts) →
        Allowed (low - n) cs (cond b (slack_multipliers n sign ts) ((t.0 - n, sign *ℤ t.1) ∷ slack_multipliers n sign ts))
    by true e r =
        let under : t.0 < n = grind (arith, nat_tests) in
        let front = a.0 in
        let same : (t.0 + 1) - n ≡ low - n = omega arith in
        subst (λ k. Allowed k cs (slack_multipliers n sign ts)) same r
    by false e r =
        let high_enough : n ≤ t.0 = grind (arith, nat_tests) in
        let front = a.0 in
        let same : (t.0 + 1) - n ≡ (t.0 - n) + 1 = omega arith in
        let well = h zero t refl high_enough in
        (omega arith, (well.0, (well.1, subst (λ k. Allowed k cs (slack_multipliers n sign ts)) same r)))

module _ (n : ℕ) (rows : List Row) (lines : List Standing) (t : IsTableau n rows lines) (w : NameUnknowns n rows) (q : ℕ) (f : Row) (l : IsLine lines q f) (cs : List Constraint) (are : AreRowsOf cs rows) where
  -- the row of a slack of the line, and its constraint
  pub record IsSlackRow (at : ℕ) : Type 0 where
    pub row : Row
    pub constraint : Constraint
    pub is_row : slice_get rows (at - n) ≡ Some row
    pub is_constraint : slice_get cs (at - n) ≡ Some constraint
    pub same : get_or cs (at - n) no_constraint ≡ constraint
    pub means : IsRowOf constraint row

  pub slack_row : (at : ℕ) → n ≤ at → at < length lines → IsSlackRow at
  slack_row at low high =
      let r = slice_get-some rows (at - n) (let s = t.size in omega arith) in
      let c = slice_get-some cs (at - n) (let s = t.size in let z = are.size in omega arith) in
      record { row = r.0; constraint = c.0; is_row = r.1; is_constraint = c.1; same = get_or_from_slice_get cs (at - n) c.0 no_constraint c.1; means = are.each (at - n) c.0 r.0 c.1 r.1 }

  module _ (in_range : EachTerm (λ s. s.0 < length lines) f.form.coefficients) where
    -- the sum of the rows with these multipliers, at a part of them that is their value at some point
    pub line_sum : (V : Constraint → ℤ) (base : ℕ → ℤ) (d : ℤ) → ((c : Constraint) (r : Row) → IsRowOf c r → V c ≡ form_value base d r.form) → (sign : ℤ) →
        combined V cs (slack_multipliers n sign f.form.coefficients) ≡ sign *ℤ (terms_value (extended n rows base d) (unknown_terms n f.form.coefficients) +ℤ f.form.constant *ℤ d)
    line_sum V base d agrees sign =
        combined_slacks n rows base d V cs sign f.form.coefficients
        (λ k s e high.
        let row = slack_row s.0 high (in_range k s e) in
        let x : extended n rows base d s.0 ≡ neg_ℤ (form_value base d row.row.form) = extended_row n rows base d s.0 row.row high row.is_row in
        let v = ap V row.same ∙ agrees row.constraint row.row row.means in
        omega (arith, ints, x, v))
        ∙ ap (λ z. sign *ℤ z)
        (let zero_line = (t.same (extended n rows base d) d).1 (rows_hold n rows base d w) q f l in
        omega (arith, ints, zero_line))
