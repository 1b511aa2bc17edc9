-- The line that shows a conflict gives a leaf by Farkas' lemma.
use Rattle.std.proofs.Common.{◌≡◌, ◌≢◌, ℕ, zero, ◌-◌, ◌<◌, ◌≤◌, ◌^◌, ℤ, pos, neg_ℤ, ◌+ℤ◌, ◌*ℤ◌, ◌≤ℤ◌, ◌<ℤ◌, List, [], ◌∷◌, length, slice_get, get_or, Some, Bool, true, false, cond, IsTrue, nat_lt, ◌⊎◌, ⊎_elim, inl, inr, refl, ap, sym, ◌∙◌, subst, arith}
use Rattle.std.proofs.lemmas.Int.{ints, by_lt_z}
use Rattle.std.proofs.lemmas.Bool.{cases_lt}
use Rattle.std.proofs.lemmas.Bool.Decides.{nat_tests, eqb_tells}
use Rattle.sv_linear.specs.Terms.{coefficient, terms_value}
use Rattle.sv_linear.specs.Forms.{form_value}
use Rattle.sv_linear.specs.Points.{unit, nowhere, coefficient_is_value, value_nowhere}
use Rattle.sv_linear.specs.Integers.{mul-neg, mul_comm, mul_not_negative, times_zero}
use Rattle.sv_linear.specs.declared.row.Row.{Row}
use Rattle.sv_linear.specs.declared.row.RowKind.{RowKind}
use Rattle.sv_linear.specs.declared.row.RowKind.TheVariants.{Le, Eq}
use Rattle.farkas_check.specs.Systems.{Constraint, no_constraint, is_equation}
use Rattle.farkas_check.specs.Closings.{combined, coefficient_of, constant_of, Allowed, FarkasRule}
use Rattle.lia_tableau.specs.Quantities.{bound_of, bound_of_slack, bound_of_kind}
use Rattle.lia_tableau.specs.Bases.{IsLine, IsTableau}
use Rattle.lia_tableau.specs.Shown.{ShowsConflict, Breaks, CanMend, HaveOppositeSigns}
use Rattle.lia_tableau.specs.declared.bound.QuantityBound.TheVariants.{Free, NotNegative}
use Rattle.lia_tableau.specs.declared.standing.Standing.{Standing}
use Rattle.lia_branch.specs.Nodes.{IsRowOf}
use Rattle.lia_branch.specs.LeafMultipliers.{slack_multipliers, unknown_terms, AreRowsOf}
use Rattle.lia_branch.proofs.LeafSums.{IsTakenWell, allowed, line_sum, slack_row}
use Rattle.lia_tableau.specs.LineLaws.{held, other_outside, extended}
use Rattle.sv_linear.specs.TermLaws.{term_here, EachTerm, rest_of}
use Rattle.sv_linear.specs.Rows.{NameUnknowns}

-- where no term is an unknown's
no_unknowns : (n : ℕ) (ts : List (ℕ × ℤ)) → EachTerm (λ t. t.0 < n → ⊥) ts → unknown_terms n ts ≡ []
no_unknowns n [] h = refl
no_unknowns n (t ∷ ts) h = by (nat_lt t.0 n) refl (no_unknowns n ts (rest_of (λ s. s.0 < n → ⊥) t ts h))
  where
    by : (b : Bool) → nat_lt t.0 n ≡ b → unknown_terms n ts ≡ [] → cond b (t ∷ unknown_terms n ts) (unknown_terms n ts) ≡ []
    by true e r = absurd (h zero t refl (grind (arith, nat_tests)))
    by false e r = r

-- a coefficient of the sign that the constant has
same_sign : (a c sign : ℤ) → (HaveOppositeSigns a c → ⊥) → pos 0 <ℤ (sign *ℤ c) → pos 0 ≤ℤ (sign *ℤ a)
same_sign a c sign h p =
    by_lt_z (pos 0) sign
    (λ up. by_lt_z a (pos 0)
    (λ low. by_lt_z (pos 0) c (λ k. absurd (h (inl (low, k))))
    (λ k. absurd (let j = mul_not_negative sign (neg_ℤ c) (omega (arith, ints, up)) (omega (arith, ints)) in omega (arith, ints, p, j, mul-neg sign c))))
    (λ k. mul_not_negative sign a (omega (arith, ints, up)) k))
    (λ down. by_lt_z (pos 0) a
    (λ high. by_lt_z c (pos 0) (λ k. absurd (h (inr (high, k))))
    (λ k. absurd (let j = mul_not_negative (neg_ℤ sign) c (omega (arith, ints)) k in omega (arith, ints, p, j, mul_comm (neg_ℤ sign) c, mul-neg c sign, mul_comm c sign))))
    (λ k. let j = mul_not_negative (neg_ℤ sign) (neg_ℤ a) (omega (arith, ints)) (omega (arith, ints)) in
    omega (arith, ints, j, mul-neg (neg_ℤ sign) a, mul_comm (neg_ℤ sign) a, mul-neg a sign, mul_comm a sign)))

own_sign : (a c sign : ℤ) → pos 0 <ℤ a → pos 0 <ℤ c → pos 0 <ℤ (sign *ℤ c) → pos 0 ≤ℤ (sign *ℤ a)
own_sign a c sign p k h = same_sign a c sign (λ o. ⊎_elim (λ x. omega (arith, ints, x.0, p)) (λ x. omega (arith, ints, x.1, k)) o) h

slack_bound : (n : ℕ) (rows : List Row) (at : ℕ) (r : Row) → n ≤ at → slice_get rows (at - n) ≡ Some r → bound_of n rows at ≡ bound_of_kind r.kind
slack_bound n rows at r h e =
    let t : nat_lt at n ≡ false = grind (arith, nat_tests) in
    ap (λ b. cond b Free (bound_of_slack (slice_get rows (at - n)))) t ∙ ap bound_of_slack e

free_unknown : (n : ℕ) (rows : List Row) (at : ℕ) → at < n → bound_of n rows at ≡ Free
free_unknown n rows at h =
    let t : nat_lt at n ≡ true = grind (arith, nat_tests) in
    ap (λ b. cond b Free (bound_of_slack (slice_get rows (at - n)))) t

module _ (n : ℕ) (rows : List Row) (lines : List Standing) (t : IsTableau n rows lines) (w : NameUnknowns n rows) (q : ℕ) (f : Row) (l : IsLine lines q f)
    (k : ShowsConflict n rows lines q f.form) (cs : List Constraint) (are : AreRowsOf cs rows) (sign : ℤ) (p : pos 0 <ℤ (sign *ℤ f.form.constant)) where
  in_range : EachTerm (λ s. s.0 < length lines) f.form.coefficients
  in_range i s e = ⊎_elim (λ h. h) (λ h. absurd (held f i s e ((t.line q f l).within s.0 h))) (cases_lt s.0 (length lines))

  -- the quantity of the line is a slack
  own_slack : q < n → ⊥
  own_slack h = subst (λ b. Breaks b f.form) (free_unknown n rows q h) k.breaks

  unknowns_gone : EachTerm (λ s. s.0 < n → ⊥) f.form.coefficients
  unknowns_gone i s e low =
      let apart : s.0 ≢ q = λ z. own_slack (subst (λ m. m < n) z low) in
      let o = other_outside n rows lines t q f l s.0 apart (held f i s e) in
      k.none_mends s.0 o (subst (λ b. CanMend b (coefficient s.0 f.form.coefficients) f.form.constant) (sym (free_unknown n rows s.0 low)) (held f i s e))

  le_sign : (at : ℕ) (a : ℤ) → bound_of n rows at ≡ NotNegative → coefficient at f.form.coefficients ≡ a → a ≢ pos 0 → pos 0 ≤ℤ (sign *ℤ a)
  le_sign at a b c z =
      ⊎_elim
      (λ e.
      let broken : pos 0 <ℤ f.form.constant = subst (λ m. Breaks m f.form) (ap (bound_of n rows) (sym e.1) ∙ b) k.breaks in
      own_sign a f.form.constant sign (subst (λ m. pos 0 <ℤ m) (ap (λ m. coefficient m f.form.coefficients) (sym e.1) ∙ c) (t.line q f l).own) broken p)
      (λ m.
      let o = other_outside n rows lines t q f l at m.1 (λ y. z (sym c ∙ y)) in
      same_sign a f.form.constant sign (λ h. k.none_mends at o (subst (λ v. CanMend v (coefficient at f.form.coefficients) f.form.constant) (sym b) (subst (λ v. HaveOppositeSigns v f.form.constant) (sym c) h))) p)
      (eqb_tells at q)

  kind_sign : (kind : RowKind) (at : ℕ) (a : ℤ) → bound_of n rows at ≡ bound_of_kind kind → coefficient at f.form.coefficients ≡ a → a ≢ pos 0 → IsTrue (is_equation kind) ⊎ (pos 0 ≤ℤ (sign *ℤ a))
  kind_sign Eq at a b c z = inl refl
  kind_sign Le at a b c z = inr (le_sign at a b c z)

  taken_well : EachTerm (IsTakenWell n cs sign) f.form.coefficients
  taken_well i s e high =
      let here = term_here 0 (2 ^ 32) f.form.coefficients i s f.form.ascending e in
      let row = slack_row n rows lines t w q f l cs are s.0 high (in_range i s e) in
      let size = t.size in
      let sizes = are.size in
      let range = in_range i s e in
      let kind : is_equation row.row.kind ≡ (get_or cs (s.0 - n) no_constraint).equal = row.means.kind ∙ sym (ap (λ (c : Constraint). c.equal) row.same) in (
        omega arith,
        ⊎_elim (λ y. inl (subst (λ b. IsTrue b) kind y)) (λ y. inr y)
            (kind_sign row.row.kind s.0 s.1 (slack_bound n rows s.0 row.row high row.is_row) here.is (λ y. held f i s e (here.is ∙ y))),
      )

  at_unit : (u : ℕ) (c : Constraint) (r : Row) → IsRowOf c r → coefficient_of u c ≡ form_value (unit u) (pos 0) r.form
  at_unit u c r m =
      coefficient_is_value u c.terms ∙ sym (m.value (unit u)) ∙ omega (arith, ints)

  at_nowhere : (c : Constraint) (r : Row) → IsRowOf c r → constant_of c ≡ form_value nowhere (pos 1) r.form
  at_nowhere c r m = sym m.constant ∙ omega (arith, ints, value_nowhere r.form.coefficients)

  sum_is : (V : Constraint → ℤ) (base : ℕ → ℤ) (d : ℤ) → ((c : Constraint) (r : Row) → IsRowOf c r → V c ≡ form_value base d r.form) →
      combined V cs (slack_multipliers n sign f.form.coefficients) ≡ sign *ℤ (f.form.constant *ℤ d)
  sum_is V base d agrees =
      let none = no_unknowns n f.form.coefficients unknowns_gone in
      let z : terms_value (extended n rows base d) (unknown_terms n f.form.coefficients) +ℤ f.form.constant *ℤ d ≡ f.form.constant *ℤ d = ap (λ ts. terms_value (extended n rows base d) ts +ℤ f.form.constant *ℤ d) none ∙ omega (arith, ints) in
      line_sum n rows lines t w q f l cs are in_range V base d agrees sign ∙ ap (λ y. sign *ℤ y) z

  pub conflict_rule : FarkasRule cs (slack_multipliers n sign f.form.coefficients)
  conflict_rule = record {
    allowed = let first : 0 - n ≡ 0 = omega arith in subst (λ i. Allowed i cs (slack_multipliers n sign f.form.coefficients)) first (allowed n cs sign 0 (2 ^ 32) f.form.coefficients f.form.ascending taken_well);
    vanishes = λ u. sum_is (coefficient_of u) (unit u) (pos 0) (at_unit u) ∙ times_zero sign (f.form.constant *ℤ pos 0) (omega (arith, ints));
    above_zero =
        let one : f.form.constant *ℤ pos 1 ≡ f.form.constant = omega (arith, ints) in
        subst (λ y. pos 0 <ℤ y) (sym (sum_is constant_of nowhere (pos 1) at_nowhere ∙ ap (λ y. sign *ℤ y) one)) p;
  }
