-- A comparison is true exactly where the form of its row is at most 0, or 0.
use Rattle.std.proofs.Common.{◌≡◌, sym, ap, ◌∙◌, subst, Bool, true, false, ◌↔◌, ℤ, pos, ◌+ℤ◌, ◌*ℤ◌, ◌≤ℤ◌, arith}
use Rattle.std.specs.Prelude.{int_le, int_lt, if◌then◌else◌}
use Rattle.std.specs.Ordering.{int_eq}
use Rattle.std.specs.Cmp.{signed_Decides}
use Rattle.std.proofs.lemmas.Int.{ints}
use Rattle.sv_terms.specs.declared.op.Op.{Op}
use Rattle.sv_terms.specs.declared.op.Op.TheVariants as op
use Rattle.literal_forms.specs.Linear.{Linear, Unknown, less, scaled, minus_one}
use Rattle.flat_cubes.specs.Flattening.{compared, opposite, plus_one}
use Rattle.sv_linear.specs.Rows.{Compares}
use Rattle.straight_line.proofs.Amounts.{linear_value, value_added, value_scaled, value_less}

-- what a comparison of two numbers gives
abbrev pub test : Op → ℤ → ℤ → Bool
test op.LessEqual m n = int_le m n
test op.Less m n = int_lt m n
test op.GreaterEqual m n = int_le n m
test op.Greater m n = int_lt n m
test _ m n = int_eq m n

le_is : (m n : ℤ) → (int_le m n ≡ true) ↔ ((m +ℤ n *ℤ minus_one) ≤ℤ pos 0)
le_is m n = (λ h. grind (arith, ints), λ h. grind (arith, ints))

lt_is : (m n : ℤ) → (int_lt m n ≡ true) ↔ (((m +ℤ n *ℤ minus_one) +ℤ pos 1) ≤ℤ pos 0)
lt_is m n = (λ h. grind (arith, ints), λ h. grind (arith, ints))

ge_is : (m n : ℤ) → (int_le n m ≡ true) ↔ (((m +ℤ n *ℤ minus_one) *ℤ minus_one) ≤ℤ pos 0)
ge_is m n = (λ h. grind (arith, ints), λ h. grind (arith, ints))

gt_is : (m n : ℤ) → (int_lt n m ≡ true) ↔ (((m +ℤ n *ℤ minus_one) *ℤ minus_one +ℤ pos 1) ≤ℤ pos 0)
gt_is m n = (λ h. grind (arith, ints), λ h. grind (arith, ints))

not_le : (m n : ℤ) → (int_le m n ≡ false) ↔ (int_lt n m ≡ true)
not_le m n = (λ h. grind (arith, ints), λ h. grind (arith, ints))

not_lt : (m n : ℤ) → (int_lt m n ≡ false) ↔ (int_le n m ≡ true)
not_lt m n = (λ h. grind (arith, ints), λ h. grind (arith, ints))

eq_is : (m n : ℤ) → (int_eq m n ≡ true) ↔ (m +ℤ n *ℤ minus_one ≡ pos 0)
eq_is m n = (λ h. let e = (signed_Decides m n).0 h in omega (arith, ints), λ h. (signed_Decides m n).1 (omega (arith, ints)))

-- comparisons that have a row: orders, and equalities that are to hold
abbrev pub HasRow : Op → Bool → Type 0
HasRow op.LessEqual b = Unit {0}
HasRow op.Less b = Unit {0}
HasRow op.GreaterEqual b = Unit {0}
HasRow op.Greater b = Unit {0}
HasRow op.Equal true = Unit {0}
HasRow _ b = ⊥

module _ (x : Unknown → ℤ) (l r : Linear) where
  abbrev m : ℤ
  m = linear_value x l

  abbrev n : ℤ
  n = linear_value x r

  value_plus : (a : Linear) → linear_value x (plus_one a) ≡ linear_value x a +ℤ pos 1
  value_plus a = value_added x a _ ∙ omega (arith, ints)

  back_less : linear_value x (scaled (less l r) minus_one) ≡ (m +ℤ n *ℤ minus_one) *ℤ minus_one
  back_less = value_scaled x (less l r) minus_one ∙ ap (λ z. z *ℤ minus_one) (value_less x l r)

  at_most : (P : Type 0) (z v : ℤ) → v ≡ z → P ↔ (z ≤ℤ pos 0) → P ↔ (v ≤ℤ pos 0)
  at_most P z v e k = (λ h. subst (λ y. y ≤ℤ pos 0) (sym e) (k.0 h), λ h. k.1 (subst (λ y. y ≤ℤ pos 0) e h))

  after : (P Q R : Type 0) → P ↔ Q → Q ↔ R → P ↔ R
  after P Q R f g = (λ p. g.0 (f.0 p), λ r. f.1 (g.1 r))

  le_row : (int_le m n ≡ true) ↔ (linear_value x (less l r) ≤ℤ pos 0)
  le_row = at_most _ _ _ (value_less x l r) (le_is m n)

  lt_row : (int_lt m n ≡ true) ↔ (linear_value x (plus_one (less l r)) ≤ℤ pos 0)
  lt_row = at_most _ _ _ (value_plus (less l r) ∙ ap (λ z. z +ℤ pos 1) (value_less x l r)) (lt_is m n)

  ge_row : (int_le n m ≡ true) ↔ (linear_value x (scaled (less l r) minus_one) ≤ℤ pos 0)
  ge_row = at_most _ _ _ back_less (ge_is m n)

  gt_row : (int_lt n m ≡ true) ↔ (linear_value x (plus_one (scaled (less l r) minus_one)) ≤ℤ pos 0)
  gt_row = at_most _ _ _ (value_plus (scaled (less l r) minus_one) ∙ ap (λ z. z +ℤ pos 1) back_less) (gt_is m n)

  eq_row : (int_eq m n ≡ true) ↔ (linear_value x (less l r) ≡ pos 0)
  eq_row = (λ h. value_less x l r ∙ (eq_is m n).0 h, λ h. (eq_is m n).1 (sym (value_less x l r) ∙ h))

  -- the row of a comparison, or of the one that holds where it doesn't
  pub row_is : (o : Op) (b : Bool) → HasRow o b → (test o m n ≡ b) ↔ Compares (compared (if b then o else opposite o) (less l r)).0 (linear_value x (compared (if b then o else opposite o) (less l r)).1)
  row_is op.LessEqual true h = le_row
  row_is op.LessEqual false h = after _ _ _ (not_le m n) gt_row
  row_is op.Less true h = lt_row
  row_is op.Less false h = after _ _ _ (not_lt m n) ge_row
  row_is op.GreaterEqual true h = ge_row
  row_is op.GreaterEqual false h = after _ _ _ (not_le n m) lt_row
  row_is op.Greater true h = gt_row
  row_is op.Greater false h = after _ _ _ (not_lt n m) le_row
  row_is op.Equal true h = eq_row
  row_is op.Equal false h = absurd h
  row_is _ b h = absurd h
