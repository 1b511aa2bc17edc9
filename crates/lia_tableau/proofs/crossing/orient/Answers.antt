use Rattle.std.proofs.Common.{rules, ◌≡◌, ◌⊎◌, pos, neg_ℤ, ◌<ℤ◌, inl, inr, sym, ◌∙◌, subst, arith}
use Rattle.std.specs.Int.{w128}
use Rattle.std.proofs.lemmas.Int.{ints, by_lt_z}
use mir.Val.{SFits}
use Rattle.sv_linear.specs.Terms.{coefficient}
use Rattle.lia_tableau.proofs.Combinations.{turned_by}
use Rattle.lia_tableau.proofs.crossing.orient.Goals as goal
use Rattle.lia_tableau.proofs.crossing.orient.Goals.{then-at-gt0, else-at-gt0}

pub returns-in-Ok : goal.returns-in-Ok
returns-in-Ok c =
    let fa : SFits w128 c.at.result = search rules in
    let a = coefficient c.args.at c.args.row.now.form.coefficients in
    let sign : ((c.if-at-gt0.by ≡ pos 1) × (pos 0 <ℤ coefficient c.args.at c.args.row.now.form.coefficients)) ⊎ ((c.if-at-gt0.by ≡ neg_ℤ (pos 1)) × (coefficient c.args.at c.args.row.now.form.coefficients <ℤ pos 0)) =
    elim c.if-at-gt0.branch [
      | then-at-gt0 w ↦ inl (sym c.if-at-gt0.by-is ∙ w.by-is, let p : pos 0 <ℤ c.at.result = omega (arith, ints, w.if-at-gt0.true) in subst (λ z. pos 0 <ℤ z) c.at.ensures p)
      | else-at-gt0 w ↦ inr (
        sym c.if-at-gt0.by-is ∙ w.by-is,
        let n : c.at.result ≡ pos 0 → ⊥ = λ e. c.requires.held (sym c.at.ensures ∙ e) in
            let p : c.at.result <ℤ pos 0 = by_lt_z c.at.result (pos 0) (λ h. h) (λ h. absurd (n (omega (arith, ints, w.if-at-gt0.false)))) in subst (λ z. z <ℤ pos 0) c.at.ensures p,
      )
    ] in
    turned_by c.args.at c.if-at-gt0.by c.args.row.now c.of_constant-zero.result c.in-Ok.form c.equation_of.result sign
    (λ x d. rw c.if-at-gt0.by-is at (c.in-Ok.ensures.value x d))
    (λ k. (rw c.if-at-gt0.by-is at (c.in-Ok.ensures.outside k)).1.1) c.equation_of.ensures.primitive c.equation_of.ensures.kind
