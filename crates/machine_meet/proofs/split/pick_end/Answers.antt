use Rattle.std.proofs.Common.{length}
use Rattle.machine_meet.specs.Splits.{as_step}
use Rattle.machine_meet.proofs.ProductLemmas.{states-length}
use Rattle.machine_meet.proofs.OptionLemmas.{picked-end, step-picks}
use Rattle.machine_meet.proofs.split.pick_end.Goals as goal

pub unwrap-requires : goal.unwrap-requires
unwrap-requires g c =
    (step-picks g.P.Machine.is_state g.P.Machine.width c.args.parts.now c.args.cost.now c.requires.width (as_step g.P.Machine.ends_with) (λ p s t d k st e. (g.met.P.Machine.end_cost p s k st e).entries)
    c.args.at.now 0 c.args.at.now c.in_ok-options.options c.as_slice.result.now c.in_ok-pick.field-0 c.requires.states
    (states-length g.P.Machine.is_state c.args.parts.now c.args.at.now c.requires.states) c.in_ok-options.ensures c.as_slice.ensures
    (picked-end g.P.Machine.ends_with (length c.args.cost.now) c.args.parts.now c.args.at.now c.args.cost.now c.in_ok-options.options c.requires.end c.in_ok-options.ensures)
    c.in_ok-pick.ensures).0

pub returns-clause-steps : goal.returns-clause-steps
returns-clause-steps g c =
    ((step-picks g.P.Machine.is_state g.P.Machine.width c.args.parts.now c.args.cost.now c.requires.width (as_step g.P.Machine.ends_with) (λ p s t d k st e. (g.met.P.Machine.end_cost p s k st e).entries)
    c.args.at.now 0 c.args.at.now c.in_ok-options.options c.as_slice.result.now c.in_ok-pick.field-0 c.requires.states
    (states-length g.P.Machine.is_state c.args.parts.now c.args.at.now c.requires.states) c.in_ok-options.ensures c.as_slice.ensures
    (picked-end g.P.Machine.ends_with (length c.args.cost.now) c.args.parts.now c.args.at.now c.args.cost.now c.in_ok-options.options c.requires.end c.in_ok-options.ensures)
    c.in_ok-pick.ensures).1 c.unwrap.result c.unwrap.ensures).0

pub returns-clause-sum : goal.returns-clause-sum
returns-clause-sum g c =
    ((step-picks g.P.Machine.is_state g.P.Machine.width c.args.parts.now c.args.cost.now c.requires.width (as_step g.P.Machine.ends_with) (λ p s t d k st e. (g.met.P.Machine.end_cost p s k st e).entries)
    c.args.at.now 0 c.args.at.now c.in_ok-options.options c.as_slice.result.now c.in_ok-pick.field-0 c.requires.states
    (states-length g.P.Machine.is_state c.args.parts.now c.args.at.now c.requires.states) c.in_ok-options.ensures c.as_slice.ensures
    (picked-end g.P.Machine.ends_with (length c.args.cost.now) c.args.parts.now c.args.at.now c.args.cost.now c.in_ok-options.options c.requires.end c.in_ok-options.ensures)
    c.in_ok-pick.ensures).1 c.unwrap.result c.unwrap.ensures).1
