use Rattle.std.proofs.Common.{rules, ◌≡◌, ◌+◌, ℤ, pos, get_or, drop, Ok, Err, ap, sym, ◌∙◌, subst}
use Rattle.std.specs.Int.{w128}
use Rattle.std.proofs.lemmas.Int.{to_z-of_z}
use Rattle.std.proofs.lemmas.Result.{err_from_is_err_and}
use mir.Val.{SFits, to_z}
use Rattle.term_eval.specs.Evaluation.{EvaluatesAs, and_then, steps_from}
use Rattle.term_eval.specs.Steps.{step_of}
use Rattle.term_eval.proofs.Stepping.{steps-more, steps-fault}
use Rattle.term_eval.proofs.sums.FoldStep.take_all.Goals as goal

pub returns-in_err-total : goal.returns-in_err-total
returns-in_err-total c =
    let step = step_of c.args.self in
    let others = c.args.others.now in
    let i = c.loop-other.other-index in
    let element : SFits w128 (get_or others i (pos 0)) = search rules in
    let fault : EvaluatesAs (step (to_z w128 c.loop-other.total-bits) (get_or others i (pos 0))) (Err c.in_err-total.field-0.0) = subst (λ (z : ℤ). EvaluatesAs (step (to_z w128 c.loop-other.total-bits) z) (Err c.in_err-total.field-0.0)) (to_z-of_z w128 (get_or others i (pos 0)) element) c.in_err-total.ensures in
    let start : SFits w128 c.args.first = search rules in
    let kept = ap (λ (z : ℤ). steps_from step z others) (sym (to_z-of_z w128 c.args.first start)) ∙ c.loop-other.invariant in
    let exit = err_from_is_err_and c.from_residual.result c.from_residual.ensures.1 in
    rw (exit.1, exit.2) (steps-fault step (steps_from step c.args.first others) (to_z w128 c.loop-other.total-bits) others i (pos 0) c.in_err-total.field-0.0 c.loop-other-test.true kept fault)

pub loop-other-preserved : goal.loop-other-preserved
loop-other-preserved c =
    let step = step_of c.args.self in
    let others = c.args.others.now in
    let i = c.loop-other.other-index in
    let element : SFits w128 (get_or others i (pos 0)) = search rules in
    let value : SFits w128 c.in_ok-total.total = search rules in
    let taken : step (to_z w128 c.loop-other.total-bits) (get_or others i (pos 0)) ≡ Ok c.in_ok-total.total = rw (to_z-of_z w128 _ element) at c.in_ok-total.ensures in
    c.loop-other.invariant ∙ steps-more step (to_z w128 c.loop-other.total-bits) others i (pos 0) c.loop-other-test.true
    ∙ ap (and_then (λ (z : ℤ). steps_from step z (drop (i + 1) others))) taken
    ∙ ap (λ (z : ℤ). steps_from step z (drop (i + 1) others)) (sym (to_z-of_z w128 c.in_ok-total.total value))
