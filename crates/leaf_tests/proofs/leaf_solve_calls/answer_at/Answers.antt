use Rattle.std.proofs.Common.{◌≡◌, ◌∙◌, pos, neg_ℤ, ◌-ℤ◌, List, [], ◌∷◌, ◌++◌, ap, arith, rules}
use Rattle.std.specs.Int.{w128}
use Rattle.std.proofs.lemmas.Int.{ints, to_z-of_z}
use mir.Val.{SFits}
use Rattle.sv_linear.specs.Combining.{IsSymmetric}
use Rattle.sv_linear.specs.declared.row.Row.{Row}
use Rattle.leaf_tests.proofs.LeafSolveRows.{row-within, one-within}
use Rattle.leaf_tests.proofs.leaf_solve_calls.answer_at.Goals as goal

pub answer-requires-clause-rows : goal.answer-requires-clause-rows
answer-requires-clause-rows c =
    let few = c.ranges.length in
    let from_is = c.from.ensures in
    let f : SFits w128 c.from.result = search rules in
    let first = rw (to_z-of_z w128 _ f) at c.in_ok-row.ensures.constant in
    let n : SFits w128 (pos 0 -ℤ c.from.result) = omega (arith, ints, from_is) in
    let second = rw (to_z-of_z w128 _ n) at first in
    let is : c.in_ok-row.field-0.form.constant ≡ neg_ℤ (pos c.args.length) = omega (arith, ints, second, from_is) in
    one-within c.in_ok-row.field-0 c.as_slice.result.now (c.as_slice.ensures ∙ c.in_ok-push.ensures.ok ∙ ap (λ (l : List Row). l ++ c.in_ok-row.field-0 ∷ []) c.new-rows.ensures)
    (row-within c.in_ok-row.field-0 (pos 1) (neg_ℤ (pos c.args.length)) c.in_ok-row.ensures.terms is (omega arith) (let z : IsSymmetric (pos 1) = omega arith in z)
    (let z : IsSymmetric (neg_ℤ (pos c.args.length)) = omega (arith, ints, few) in z))
