use Rattle.std.proofs.Common.{◌≡◌, ◌≤◌, ◌∙◌, ℕ, List, Contains, map, ap, sym, subst, arith}
use Rattle.std.proofs.lemmas.Result.{IfOk-weaker}
use Rattle.box_layers.specs.Moving.{end_moves, AreLayerEnds}
use Rattle.box_layers.proofs.ExactLemmas.{end-width}
use Rattle.box_layers.proofs.moving.moves_onward.Goals as goal

pub ends-requires-2-clause-costs : goal.ends-requires-2-clause-costs
ends-requires-2-clause-costs c = λ k h.
    end-width c.args.machine.now c.args.at.now.state c.in_ok-last.last c.in_ok-last.ensures k (subst (λ (l : List (List ℕ)). Contains l k) c.as_slice.ensures h) ∙ sym c.requires.spent

pub returns : goal.returns
returns c =
    let uppers = map (λ (s : ℕ × ℕ). s.1) c.args.sides.now in
    let zero : 0 ≤ 0 = omega arith in
    IfOk-weaker c.ends-2.result (λ all. all ≡ end_moves uppers c.in_ok-on.on c.args.at.now c.as_slice.result.now) (AreLayerEnds c.args.machine.now uppers c.args.at.now)
    (λ all made. record {
      on = c.in_ok-on.on;
      costs = c.in_ok-last.last;
      single = c.in_ok-on.ensures.set;
      inhabited = c.in_ok-on.ensures.inhabited zero;
      exact = c.in_ok-last.ensures;
      made = made ∙ ap (end_moves uppers c.in_ok-on.on c.args.at.now) c.as_slice.ensures;
    })
    c.ends-2.ensures
