use Rattle.std.proofs.Common.{◌≡◌, ◌∙◌, ℕ, List, Contains, map, ap, sym, subst}
use Rattle.std.proofs.lemmas.Result.{IfOk-weaker}
use Rattle.machine_core.specs.declared.machine.Move.{Move}
use Rattle.box_layers.specs.Moving.{step_moves, AreLayerSteps}
use Rattle.box_layers.proofs.ExactLemmas.{move-width}
use Rattle.box_layers.proofs.moving.moves_within.Goals as goal

pub steps-requires-clause-costs : goal.steps-requires-clause-costs
steps-requires-clause-costs c = λ e k.
    move-width c.args.machine.now c.args.at.now.state c.in_ok-inner.inner c.in_ok-inner.ensures.exact c.in_ok-inner.ensures.inhabited e (subst (λ (l : List (Move ℕ)). Contains l e) c.as_slice.ensures k) ∙ sym c.requires.spent

pub returns : goal.returns
returns c =
    let uppers = map (λ (s : ℕ × ℕ). s.1) c.args.sides.now in
    IfOk-weaker c.steps.result (λ all. all ≡ step_moves uppers c.args.at.now c.as_slice.result.now) (AreLayerSteps c.args.machine.now uppers c.args.at.now)
    (λ all made. record {
      inner = c.in_ok-inner.inner;
      exact = c.in_ok-inner.ensures.exact;
      inhabited = c.in_ok-inner.ensures.inhabited;
      made = made ∙ ap (step_moves uppers c.args.at.now) c.as_slice.ensures;
    })
    c.steps.ensures
