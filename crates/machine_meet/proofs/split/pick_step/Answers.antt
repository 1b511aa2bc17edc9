use Rattle.std.proofs.Common.{length}
use Rattle.machine_meet.proofs.ProductLemmas.{steps-length}
use Rattle.machine_meet.proofs.OptionLemmas.{picked-step, step-picks}
use Rattle.machine_meet.proofs.split.pick_step.Goals as goal

pub step_options-requires : goal.step_options-requires
step_options-requires g c = record {
  states = c.requires.states;
  to = steps-length g.P.Machine.steps_to (length c.args.cost.now) c.args.parts.now c.args.from.now c.args.c c.args.cost.now c.args.to.now c.requires.step;
}

pub unwrap-requires : goal.unwrap-requires
unwrap-requires g c =
    (step-picks g.P.Machine.is_state g.P.Machine.width c.args.parts.now c.args.cost.now c.requires.width g.P.Machine.steps_to (λ p s t d k st e. (g.met.P.Machine.step_cost p s t d k st e).entries)
    c.args.from.now c.args.c c.args.to.now c.in_ok-options.options c.as_slice.result.now c.in_ok-pick.field-0 c.requires.states
    (steps-length g.P.Machine.steps_to (length c.args.cost.now) c.args.parts.now c.args.from.now c.args.c c.args.cost.now c.args.to.now c.requires.step)
    c.in_ok-options.ensures c.as_slice.ensures
    (picked-step g.P.Machine.steps_to (length c.args.cost.now) c.args.parts.now c.args.from.now c.args.c c.args.cost.now c.args.to.now c.in_ok-options.options c.requires.step c.in_ok-options.ensures)
    c.in_ok-pick.ensures).0

pub returns-clause-steps : goal.returns-clause-steps
returns-clause-steps g c =
    ((step-picks g.P.Machine.is_state g.P.Machine.width c.args.parts.now c.args.cost.now c.requires.width g.P.Machine.steps_to (λ p s t d k st e. (g.met.P.Machine.step_cost p s t d k st e).entries)
    c.args.from.now c.args.c c.args.to.now c.in_ok-options.options c.as_slice.result.now c.in_ok-pick.field-0 c.requires.states
    (steps-length g.P.Machine.steps_to (length c.args.cost.now) c.args.parts.now c.args.from.now c.args.c c.args.cost.now c.args.to.now c.requires.step)
    c.in_ok-options.ensures c.as_slice.ensures
    (picked-step g.P.Machine.steps_to (length c.args.cost.now) c.args.parts.now c.args.from.now c.args.c c.args.cost.now c.args.to.now c.in_ok-options.options c.requires.step c.in_ok-options.ensures)
    c.in_ok-pick.ensures).1 c.unwrap.result c.unwrap.ensures).0

pub returns-clause-sum : goal.returns-clause-sum
returns-clause-sum g c =
    ((step-picks g.P.Machine.is_state g.P.Machine.width c.args.parts.now c.args.cost.now c.requires.width g.P.Machine.steps_to (λ p s t d k st e. (g.met.P.Machine.step_cost p s t d k st e).entries)
    c.args.from.now c.args.c c.args.to.now c.in_ok-options.options c.as_slice.result.now c.in_ok-pick.field-0 c.requires.states
    (steps-length g.P.Machine.steps_to (length c.args.cost.now) c.args.parts.now c.args.from.now c.args.c c.args.cost.now c.args.to.now c.requires.step)
    c.in_ok-options.ensures c.as_slice.ensures
    (picked-step g.P.Machine.steps_to (length c.args.cost.now) c.args.parts.now c.args.from.now c.args.c c.args.cost.now c.args.to.now c.in_ok-options.options c.requires.step c.in_ok-options.ensures)
    c.in_ok-pick.ensures).1 c.unwrap.result c.unwrap.ensures).1
