use Rattle.std.proofs.Common.{◌≡◌, ap, arith, sym, subst}
use Rattle.machine_core.specs.declared.graph.Graph.{Graph}
use Rattle.machine_meet.specs.Products.{meet_width, multiplied}
use Rattle.regex_machine.specs.Kinds.{states_of}
use Rattle.regex_machine.proofs.BuiltLemmas.{builds-as}
use Rattle.regex_machine.proofs.MeetLemmas.{plain-agree, plain-width, tops-fit, meet-words}
use Rattle.regex_machine.proofs.joining.all_of.Goals as goal

pub of-meet-requires-clause-agree : goal.of-meet-requires-clause-agree
of-meet-requires-clause-agree c = plain-agree c.args.parts.now c.requires

pub of-meet-requires-clause-fits : goal.of-meet-requires-clause-fits
of-meet-requires-clause-fits c = tops-fit c.args.parts.now c.requires

pub list_states-requires : goal.list_states-requires
list_states-requires c = subst (λ ms. meet_width (λ (m : Graph). m.registers) ms ≡ 0) (sym c.of-meet.ensures.parts) (plain-width c.args.parts.now c.requires)

pub returns : goal.returns
returns c =
    let size = ap (multiplied states_of) c.of-meet.ensures.parts in
    builds-as _ _ _ _ c.args.limit
    (meet-words c.args.parts.now c.requires c.of-meet.result.parts.now c.of-meet.ensures.parts c.of-meet.ensures.language)
    (omega arith) c.list_states.result c.list_states.ensures
