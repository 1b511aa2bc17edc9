-- Two bases of a round of pivots by the least quantities clash: the greatest quantity that comes and goes can't both come in
-- at the one and go out at the other.
use Rattle.std.proofs.Common.{◌≡◌, ◌≢◌, ℕ, ◌<◌, ◌≤◌, ◌^◌, ℤ, pos, ◌*ℤ◌, ◌≤ℤ◌, ◌<ℤ◌, List, length, ⊎_elim, sym, ◌∙◌, subst, arith}
use Rattle.std.proofs.lemmas.Bool.{cases_lt}
use Rattle.std.proofs.lemmas.Bool.Decides.{eqb_tells}
use Rattle.sv_linear.specs.Terms.{coefficient, terms_value}
use Rattle.sv_linear.specs.declared.row.Row.{Row}
use Rattle.lia_tableau.specs.Quantities.{bound_of}
use Rattle.lia_tableau.specs.Bases.{IsLine, IsInBasis, IsOutside, IsTableau}
use Rattle.lia_tableau.specs.BasicPoints.{IsPoint}
use Rattle.lia_tableau.specs.Shown.{Breaks, Mends}
use Rattle.lia_tableau.specs.declared.standing.Standing.{Standing}
use Rattle.lia_tableau.specs.PointLaws.{point_exists}
use Rattle.lia_tableau.specs.LineLaws.{standing_of, held, other_outside, line_value, broken_constant}
use Rattle.lia_tableau.proofs.Signs.{ValueBy, through_zero, gone_sign, lesser_sign, come_sign}
use Rattle.sv_linear.specs.TermLaws.{signs, term_here}
use Rattle.lia_tableau.proofs.Soundness.{no_sum}

-- at the basis `before` the quantity `out` goes, with the line f, and q comes; at the basis `after` q goes; and what is in the
-- basis at `after` and not at `before` is at most q
pub record Clash (n : ℕ) (rows : List Row) (before after : List Standing) (out q : ℕ) : Type 0 where
  pub before_tableau : IsTableau n rows before
  pub after_tableau : IsTableau n rows after
  pub line : Row
  pub is_line : IsLine before out line
  pub breaks : Breaks (bound_of n rows out) line.form
  pub mends : Mends n rows line.form q
  pub least_in : (r : ℕ) → IsOutside before r → Mends n rows line.form r → q ≤ r
  pub going : Row
  pub is_going : IsLine after q going
  pub breaks_after : Breaks (bound_of n rows q) going.form
  pub least_out : (r : ℕ) (h : Row) → IsLine after r h → Breaks (bound_of n rows r) h.form → q ≤ r
  pub at_most : (r : ℕ) → IsInBasis after r → IsOutside before r → r ≤ q
  pub out_below : out < q

module _ (n : ℕ) (rows : List Row) (before after : List Standing) (out q : ℕ) (k : Clash n rows before after out q) where
  same_size : length after ≡ length before
  same_size = k.after_tableau.size ∙ sym k.before_tableau.size

  module _ (x : ℕ → ℤ) (d : ℤ) (p : IsPoint after x d) where
    by_line : (r : ℕ) (h : Row) → IsLine after r h → ValueBy (coefficient r h.form.coefficients) h.form.constant (x r) d
    by_line r h l = record {
      own_positive = (k.after_tableau.line r h l).own;
      positive = p.positive;
      value = (p.value r).basic h l;
    }

    keeps : (r : ℕ) (h : Row) → IsLine after r h → r < q → Breaks (bound_of n rows r) h.form → ⊥
    keeps r h l less b = let more = k.least_out r h l b in absurd (omega arith)

    came : (r : ℕ) (h : Row) → IsLine after r h → r ≡ q → pos 0 ≤ℤ (k.line.form.constant *ℤ (coefficient r k.line.form.coefficients *ℤ x r))
    came r h l e =
        let is : IsLine after q h = subst (λ i. IsLine after i h) e l in
        let same : k.going ≡ h = let g = k.is_going in cc in
        come_sign (bound_of n rows r) k.line.form h.form (coefficient r k.line.form.coefficients) (coefficient r h.form.coefficients) (x r) d
        (subst (λ i. Mends n rows k.line.form i) (sym e) k.mends) (by_line r h l)
        (subst (λ i. Breaks (bound_of n rows i) h.form) (sym e) (subst (λ (w : Row). Breaks (bound_of n rows q) w.form) same k.breaks_after))

    lesser : (r : ℕ) (h : Row) → IsLine after r h → IsOutside before r → r < q → pos 0 ≤ℤ (k.line.form.constant *ℤ (coefficient r k.line.form.coefficients *ℤ x r))
    lesser r h l o less =
        lesser_sign (bound_of n rows r) k.line.form h.form (coefficient r k.line.form.coefficients) (coefficient r h.form.coefficients) (x r) d
        (λ m. let more = k.least_in r o m in absurd (omega arith)) (broken_constant (bound_of n rows out) k.line.form k.breaks) (by_line r h l) (keeps r h l less)

    went : (r : ℕ) (h : Row) → IsLine after r h → r ≡ out → pos 0 ≤ℤ (k.line.form.constant *ℤ (coefficient r k.line.form.coefficients *ℤ x r))
    went r h l e =
        gone_sign (bound_of n rows r) k.line.form h.form (coefficient r k.line.form.coefficients) (coefficient r h.form.coefficients) (x r) d
        (subst (λ i. pos 0 <ℤ coefficient i k.line.form.coefficients) (sym e) (k.before_tableau.line out k.line k.is_line).own)
        (subst (λ i. Breaks (bound_of n rows i) k.line.form) (sym e) k.breaks) (by_line r h l) (keeps r h l (let b = k.out_below in omega arith))

    basic_sign : (r : ℕ) (h : Row) → IsLine after r h → coefficient r k.line.form.coefficients ≢ pos 0 → pos 0 ≤ℤ (k.line.form.constant *ℤ (coefficient r k.line.form.coefficients *ℤ x r))
    basic_sign r h l z =
        ⊎_elim
        (λ e. went r h l e.1)
        (λ m.
        let o = other_outside n rows before k.before_tableau out k.line k.is_line r m.1 z in
        ⊎_elim (λ less. lesser r h l o less) (λ more. came r h l (let top = k.at_most r (h, l) o in omega arith)) (cases_lt r q))
        (eqb_tells r out)

    in_range : (r : ℕ) → coefficient r k.line.form.coefficients ≢ pos 0 → r < length after
    in_range r z = ⊎_elim (λ h. h) (λ h. absurd (z ((k.before_tableau.line out k.line k.is_line).within r (omega (arith, same_size))))) (cases_lt r (length after))

    sign : (r : ℕ) → coefficient r k.line.form.coefficients ≢ pos 0 → pos 0 ≤ℤ (k.line.form.constant *ℤ (coefficient r k.line.form.coefficients *ℤ x r))
    sign r z =
        ⊎_elim
        (λ o. through_zero k.line.form.constant (coefficient r k.line.form.coefficients) (x r) ((p.value r).outside o))
        (λ h. basic_sign r h.0 h.1 z)
        (standing_of after r (in_range r z))

    clashed : ⊥
    clashed =
        no_sum k.line.form.constant d (terms_value x k.line.form.coefficients) (broken_constant (bound_of n rows out) k.line.form k.breaks) p.positive
        (signs x k.line.form.constant k.line.form.coefficients (λ i e g.
        let here = term_here 0 (2 ^ 32) k.line.form.coefficients i e k.line.form.ascending g in
        subst (λ a. pos 0 ≤ℤ (k.line.form.constant *ℤ (a *ℤ x e.0))) here.is (sign e.0 (held k.line i e g))))
        ((k.before_tableau.same x d).1 ((k.after_tableau.same x d).0 (line_value n rows after k.after_tableau x d p)) out k.line k.is_line)

  pub no_clash : ⊥
  no_clash = let p = point_exists n rows after k.after_tableau in clashed p.0 p.1.0 p.1.1
