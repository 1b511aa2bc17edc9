-- Each basis has a point: the values of its quantities over one number above 0. And whole numbers that are the values of the
-- unknowns at the point meet the rows, where the point does.
use Rattle.std.proofs.Common.{◌≡◌, ℕ, zero, suc, ◌+◌, ◌<◌, ℤ, pos, neg_ℤ, ◌+ℤ◌, ◌-ℤ◌, ◌*ℤ◌, ◌<ℤ◌, List, [], ◌∷◌, slice_get, Some, ⊎_elim, refl, ap, sym, ◌∙◌, subst, arith}
use Rattle.std.proofs.lemmas.Int.{ints, by_lt_z}
use Rattle.sv_linear.specs.Terms.{coefficient, terms_value, AscendsWithin}
use Rattle.sv_linear.specs.Integers.{mul-add, add-mul, mul-neg, mul_assoc, mul_comm, mul_left_comm, product_positive, cancel_zero, times_zero}
use Rattle.sv_linear.specs.Rows.{Compares, MeetsRow}
use Rattle.sv_linear.specs.declared.row.Row.{Row}
use Rattle.sv_linear.specs.declared.row.RowKind.{RowKind}
use Rattle.sv_linear.specs.declared.row.RowKind.TheVariants.{Le, Eq}
use Rattle.lia_tableau.specs.Bases.{IsTableau}
use Rattle.lia_tableau.specs.BasicPoints.{IsValueAt, IsPoint}
use Rattle.lia_tableau.specs.LineLaws.{standing_of, ends}
use Rattle.lia_tableau.specs.Quantities.{bound_of_kind, Allows, SolvesWithSlacks}
use Rattle.lia_tableau.specs.declared.standing.Standing.{Standing}
use Rattle.lia_tableau.specs.declared.standing.Standing.TheVariants.{Outside, Basic}

-- the quantity at this place has the value z over d, where `own` gives how often a line holds its quantity
record ValueOf (own : ℕ → Row → ℤ) (ls : List Standing) (q : ℕ) (z d : ℤ) : Type 0 where
  outside : slice_get ls q ≡ Some Outside → z ≡ pos 0
  basic : (f : Row) → slice_get ls q ≡ Some (Basic f) → own q f *ℤ z +ℤ f.form.constant *ℤ d ≡ pos 0

record PointOf (own : ℕ → Row → ℤ) (ls : List Standing) : Type 0 where
  x : ℕ → ℤ
  d : ℤ
  positive : pos 0 <ℤ d
  value : (q : ℕ) → ValueOf own ls q (x q) d

abbrev in_front : ℤ → (ℕ → ℤ) → ℕ → ℤ
in_front z x zero = z
in_front z x (suc q) = x q

own_value : (a c d : ℤ) → a *ℤ neg_ℤ (c *ℤ d) +ℤ c *ℤ (a *ℤ d) ≡ pos 0
own_value a c d = omega (arith, ints, mul-neg a (c *ℤ d), mul_left_comm c a d)

scaled_value : (a b z c d : ℤ) → b *ℤ z +ℤ c *ℤ d ≡ pos 0 → b *ℤ (a *ℤ z) +ℤ c *ℤ (a *ℤ d) ≡ pos 0
scaled_value a b z c d e =
    omega (arith, ints, mul_left_comm b a z, mul_left_comm c a d, mul-add a (b *ℤ z) (c *ℤ d), times_zero a (b *ℤ z +ℤ c *ℤ d) e)

point_of : (own : ℕ → Row → ℤ) (ls : List Standing) → ((q : ℕ) (f : Row) → slice_get ls q ≡ Some (Basic f) → pos 0 <ℤ own q f) → PointOf own ls
point_of own [] h = record {
  x = λ q. pos 0;
  d = pos 1;
  positive = omega (arith, ints);
  value = λ q. record { outside = λ e. refl; basic = λ f e. absurd (cc) };
}
point_of own (Outside ∷ ls) h =
    let p = point_of (λ q. own (suc q)) ls (λ q f e. h (suc q) f e) in
    record { x = in_front (pos 0) p.x; d = p.d; positive = p.positive; value = value p }
  where
    value : (p : PointOf (λ q. own (suc q)) ls) (q : ℕ) → ValueOf own (Outside ∷ ls) q (in_front (pos 0) p.x q) p.d
    value p zero = record { outside = λ e. refl; basic = λ f e. absurd (cc) }
    value p (suc q) = record { outside = (p.value q).outside; basic = (p.value q).basic }
point_of own (Basic f ∷ ls) h =
    let p = point_of (λ q. own (suc q)) ls (λ q f e. h (suc q) f e) in
    let above : pos 0 <ℤ own 0 f = h 0 f refl in
    record {
      x = in_front (neg_ℤ (f.form.constant *ℤ p.d)) (λ q. own 0 f *ℤ p.x q);
      d = own 0 f *ℤ p.d;
      positive = product_positive (own 0 f) p.d above p.positive;
      value = value p;
    }
  where
    value : (p : PointOf (λ q. own (suc q)) ls) (q : ℕ) → ValueOf own (Basic f ∷ ls) q (in_front (neg_ℤ (f.form.constant *ℤ p.d)) (λ r. own 0 f *ℤ p.x r) q) (own 0 f *ℤ p.d)
    value p zero = record {
      outside = λ e. absurd (cc);
      basic = λ g e.
          let same : f ≡ g = cc in
          subst (λ (w : Row). own 0 w *ℤ neg_ℤ (f.form.constant *ℤ p.d) +ℤ w.form.constant *ℤ (own 0 f *ℤ p.d) ≡ pos 0) same
          (own_value (own 0 f) f.form.constant p.d);
    }
    value p (suc q) = record {
      outside = λ e. times_zero (own 0 f) (p.x q) ((p.value q).outside e);
      basic = λ g e. scaled_value (own 0 f) (own (suc q) g) (p.x q) g.form.constant p.d ((p.value q).basic g e);
    }

pub point_exists : (n : ℕ) (rows : List Row) (lines : List Standing) → IsTableau n rows lines → (x : ℕ → ℤ) × ((d : ℤ) × IsPoint lines x d)
point_exists n rows lines t =
    let p = point_of (λ q f. coefficient q f.form.coefficients) lines (λ q f e. (t.line q f e).own) in
    (p.x, (p.d, record { positive = p.positive; value = λ q. record { outside = (p.value q).outside; basic = (p.value q).basic } }))

-- the value of a quantity of a line, whole at one point, over d at another
pub cancelled : (own a b c d : ℤ) → pos 0 <ℤ own → own *ℤ a +ℤ c *ℤ pos 1 ≡ pos 0 → own *ℤ b +ℤ c *ℤ d ≡ pos 0 → b ≡ a *ℤ d
cancelled own a b c d p e f =
    let z : own *ℤ (b -ℤ (a *ℤ d)) ≡ pos 0 =
    (let m = mul-add own b (neg_ℤ (a *ℤ d)) in let k = mul-neg own (a *ℤ d) in
    let l = sym (mul_assoc own a d) in
    let i : own *ℤ a ≡ neg_ℤ c = omega (arith, ints, e) in
    let j = ap (λ w. w *ℤ d) i in
    let h = mul_comm (neg_ℤ c) d in let h' = mul-neg d c in let h'' = mul_comm d c in
    let q : b -ℤ (a *ℤ d) ≡ b +ℤ neg_ℤ (a *ℤ d) = omega (arith, ints) in
    ap (λ w. own *ℤ w) q ∙ omega (arith, ints, m, k, l, j, h, h', h'', f)) in
    let y = cancel_zero own (b -ℤ (a *ℤ d)) p z in
    omega (arith, ints, y)

module _ (n : ℕ) (rows : List Row) (lines : List Standing) (t : IsTableau n rows lines) (v : ℕ → ℤ) (whole : (u : ℕ) → u < n → IsValueAt lines u (v u) (pos 1)) where
  scaled : (x : ℕ → ℤ) (d : ℤ) → IsPoint lines x d → (u : ℕ) → u < n → x u ≡ v u *ℤ d
  scaled x d p u h =
      ⊎_elim
      (λ o. let a = (whole u h).outside o in let b = (p.value u).outside o in let z = ap (λ w. w *ℤ d) a in omega (arith, ints, b, z))
      (λ l. cancelled (coefficient u l.0.form.coefficients) (v u) (x u) l.0.form.constant d (t.line u l.0 l.1).own ((whole u h).basic l.0 l.1) ((p.value u).basic l.0 l.1))
      (standing_of lines u (let s = t.size in omega arith))

  scaled_terms : (x : ℕ → ℤ) (d : ℤ) → ((u : ℕ) → u < n → x u ≡ v u *ℤ d) → (low : ℕ) (ts : List (ℕ × ℤ)) → AscendsWithin low n ts → terms_value x ts ≡ terms_value v ts *ℤ d
  scaled_terms x d e low [] h = omega (arith, ints)
  scaled_terms x d e low (s ∷ ts) h =
      let under = ends (s.0 + 1) n ts h.1.1 in
      let one = ap (λ w. s.1 *ℤ w) (e s.0 (omega arith)) ∙ sym (mul_assoc s.1 (v s.0) d) in
      omega (arith, ints, one, scaled_terms x d e (s.0 + 1) ts h.1.1, add-mul (s.1 *ℤ v s.0) (terms_value v ts) d)

  met : (z s d : ℤ) → pos 0 <ℤ d → z *ℤ d +ℤ s ≡ pos 0 → (kind : RowKind) → Allows (bound_of_kind kind) s → Compares kind z
  met z s d p e Eq a = cancel_zero d z p (mul_comm d z ∙ omega (arith, ints, e, a))
  met z s d p e Le a = by_lt_z (pos 0) z (λ h. absurd (let k = product_positive z d h p in omega (arith, ints, k, e, a))) (λ h. h)

  -- whole values of the unknowns at a point that meets the rows meet each row over the unknowns
  pub whole_meets : ((x : ℕ → ℤ) (d : ℤ) → IsPoint lines x d → SolvesWithSlacks n rows x d) → (i : ℕ) (r : Row) → slice_get rows i ≡ Some r → AscendsWithin 0 n r.form.coefficients → MeetsRow v r
  whole_meets meets i r g w =
      let p = point_exists n rows lines t in
      let s = meets p.0 p.1.0 p.1.1 in
      let terms = scaled_terms p.0 p.1.0 (scaled p.0 p.1.0 p.1.1) 0 r.form.coefficients w in
      let one : r.form.constant *ℤ pos 1 ≡ r.form.constant = omega (arith, ints) in
      let same = ap (λ c. (terms_value v r.form.coefficients +ℤ c) *ℤ p.1.0) one in
      let e : (terms_value v r.form.coefficients +ℤ r.form.constant *ℤ pos 1) *ℤ p.1.0 +ℤ p.0 (n + i) ≡ pos 0 = omega (arith, ints, s.hold i r g, terms, same, add-mul (terms_value v r.form.coefficients) r.form.constant p.1.0) in
      met (terms_value v r.form.coefficients +ℤ r.form.constant *ℤ pos 1) (p.0 (n + i)) p.1.0 p.1.1.positive e r.kind (s.allowed i r g)
