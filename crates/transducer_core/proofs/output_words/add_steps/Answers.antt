use Rattle.std.proofs.Common.{◌<◌, ◌≤◌, ◌⊎◌, ◌↔◌, ℕ, List, length, get_or, sym, ◌∙◌, subst, arith}
use Rattle.std.proofs.lemmas.List.{get_or_default, take_all}
use Rattle.std.proofs.lemmas.List.Elements.{Contains-get_or}
use Rattle.machine_core.specs.Edges.{StepsBy}
use Rattle.transducer_core.specs.Built.{IsAnyStep}
use Rattle.transducer_core.proofs.BuiltLemmas.{steps_more}
use Rattle.transducer_core.proofs.output_words.add_steps.Goals as goal

pub add_step-requires-clause-place : goal.add_step-requires-clause-place
add_step-requires-clause-place c =
    let fs = c.args.firsts.now in
    let i = c.loop-first.first-index in
    let low : c.loop-first.first-index < length c.args.firsts.now = omega arith in
    let k = (c.requires.firsts (get_or fs i (0, 0)).0 (get_or fs i (0, 0)).1 (Contains-get_or fs i (0, 0) low)).0 in
    let e = c.loop-first.invariant.0 in
    omega (arith, k, e)

pub add_step-requires-clause-character : goal.add_step-requires-clause-character
add_step-requires-clause-character c =
    let fs = c.args.firsts.now in
    let i = c.loop-first.first-index in
    let low : c.loop-first.first-index < length c.args.firsts.now = omega arith in
    (c.requires.firsts (get_or fs i (0, 0)).0 (get_or fs i (0, 0)).1 (Contains-get_or fs i (0, 0) low)).1

pub loop-first-preserved : goal.loop-first-preserved
loop-first-preserved c =
    let fs = c.args.firsts.now in
    let i = c.loop-first.first-index in
    let low : c.loop-first.first-index < length c.args.firsts.now = omega arith in
    let x = get_or fs i (0, 0) in (
      c.add_step.ensures.states ∙ c.loop-first.invariant.0,
      c.add_step.ensures.registers ∙ c.loop-first.invariant.1,
      c.add_step.ensures.ends ∙ c.loop-first.invariant.2,
      steps_more c.args.machine.now.edges c.loop-first.machine.edges c.add_step.new.machine.edges c.args.state fs i (get_or fs i (0, 0)) low (sym (get_or_default fs i (get_or fs i (0, 0)) (0, 0) low)) c.loop-first.invariant.3 c.in_ok-add_step.ensures.steps,
    )

pub returns-clause-steps : goal.returns-clause-steps
returns-clause-steps c =
    let past : length c.args.firsts.now ≤ c.loop-first.first-index = omega arith in
    let P : List (ℕ × ℕ) → Type 0 = λ fs. (s d : ℕ) (cost : List ℕ) (to : ℕ) → StepsBy c.loop-first.machine.edges s d cost to ↔ (StepsBy c.args.machine.now.edges s d cost to ⊎ IsAnyStep c.args.state fs s d cost to) in
    subst P (take_all c.loop-first.first-index c.args.firsts.now past) c.loop-first.invariant.3
