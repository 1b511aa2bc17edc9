use Rattle.std.proofs.Common.{◌≡◌, ℕ, ◌+◌, ◌<◌, inl, inr, ℤ, pos, FitsSigned, List, [], ◌∷◌, ◌++◌, length, length-append, ap, sym, ◌∙◌, subst, arith}
use Rattle.std.specs.Int.{w128}
use Rattle.std.proofs.lemmas.Bool.{cases_lt}
use Rattle.std.proofs.lemmas.Int.{to_z-of_z}
use Rattle.std.proofs.lemmas.List.{get_or_append_left, get_or_push}
use Rattle.farkas_check.specs.Cuts.{values_of}
use Rattle.lia_tableau.specs.BasicPoints.{IsValueAt}
use Rattle.lia_tableau.specs.declared.standing.Standing.{Standing}
use Rattle.lia_branch.specs.Founds.{IsWholePoint}
use Rattle.lia_branch.proofs.points.whole_point.Goals as goal

whole-none : (lines : List Standing) (point : List ℤ) → point ≡ [] → IsWholePoint 0 lines point
whole-none lines point is = record { size = ap length is; value = λ u lt. absurd (omega arith) }

-- the value of one unknown more
whole-more : (n : ℕ) (lines : List Standing) (point new : List ℤ) (z : ℤ) → IsWholePoint n lines point → IsValueAt lines n z (pos 1) → new ≡ point ++ z ∷ [] → IsWholePoint (n + 1) lines new
whole-more n lines point new z h at is = record {
  size = ap length is ∙ length-append point (z ∷ []) ∙ ap (λ k. k + 1) h.size;
  value = λ u lt. subst (λ (l : List ℤ). IsValueAt lines u (values_of l u) (pos 1)) (sym is) (elim (cases_lt u n) [
    | inl less ↦ subst (λ x. IsValueAt lines u x (pos 1)) (sym (get_or_append_left point (z ∷ []) (pos 0) u (subst (λ k. u < k) (sym h.size) less))) (h.value u less)
    | inr more ↦
        let same : n ≡ u = omega arith in
        subst (λ x. IsValueAt lines u x (pos 1)) (sym (get_or_push point z (pos 0) u (h.size ∙ same))) (subst (λ k. IsValueAt lines k z (pos 1)) same at)
  ]);
}

pub loop-unknown-init : goal.loop-unknown-init
loop-unknown-init c = whole-none c.args.tableau.now.lines c.new-point.result c.new-point.ensures

pub loop-unknown-preserved : goal.loop-unknown-preserved
loop-unknown-preserved c =
    let fits : FitsSigned w128 c.whole_value.result = record { sfits = c.whole_value.type_inv } in
    whole-more c.loop-unknown.unknown c.args.tableau.now.lines c.loop-unknown.point c.push.new.self c.whole_value.result c.loop-unknown.invariant c.whole_value.ensures
    (rw (to_z-of_z w128 c.whole_value.result fits) at c.in_ok-push.ensures.ok)

pub returns : goal.returns
returns c =
    let same : c.loop-unknown.unknown ≡ c.args.unknowns = (let t = c.loop-unknown-test.false in let e = c.loop-unknown.auto.unknown-end in omega arith) in
    subst (λ n. IsWholePoint n c.args.tableau.now.lines c.loop-unknown.point) same c.loop-unknown.invariant
