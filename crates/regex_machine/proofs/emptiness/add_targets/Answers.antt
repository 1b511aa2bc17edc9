use Rattle.std.proofs.Common.{List, ℕ, All, subst}
use Rattle.std.proofs.lemmas.List.{take_all}
use Rattle.machine_core.specs.declared.machine.Move.{Move}
use Rattle.regex_machine.specs.Antichains.{HasOneFor}
use Rattle.regex_machine.proofs.AntichainLemmas.{adds-through, targets-more}
use Rattle.regex_machine.proofs.emptiness.add_targets.Goals as goal

pub loop-step-preserved : goal.loop-step-preserved
loop-step-preserved c =
    let inv = c.loop-step.invariant in
    let added = c.in_ok-add_place.ensures in
    record {
      more = adds-through c.args.places.now c.loop-step.places c.add_place.new.places inv.more added.more;
      states = added.states;
      each = targets-more c.args.sides.now c.args.steps.now c.loop-step.step-index c.step-item.result c.loop-step.places c.add_place.new.places c.loop-step-test.true c.step-item.is added.more inv.each added.one;
    }

pub returns-clause-each : goal.returns-clause-each
returns-clause-each c =
    subst (All (λ (m : Move (List (List ℕ))). HasOneFor c.args.sides.now c.loop-step.places m.to)) (take_all c.loop-step.step-index c.args.steps.now c.loop-step-test.false) c.loop-step.invariant.each
