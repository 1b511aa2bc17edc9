use Rattle.std.proofs.Common.{List, ℕ, All, sym, subst}
use Rattle.machine_core.specs.declared.machine.Move.{Move}
use Rattle.machine_meet.specs.Products.{AreStates, meet_width}
use Rattle.regex_machine.specs.Antichains.{HasOneFor, IsSettled, state_of_side}
use Rattle.regex_machine.specs.declared.sides.MeetSide.{MeetSide}
use Rattle.regex_machine.proofs.AntichainLemmas.{read-copied, states-at, targets-are, settled-one}
use Rattle.regex_machine.proofs.emptiness.settle.Goals as goal

pub add_targets-requires-clause-targets : goal.add_targets-requires-clause-targets
add_targets-requires-clause-targets c =
    let ds = c.args.meet.now.parts.now in
    let states = states-at ds c.args.places.now c.as_slice.result.now c.args.at c.index-as_slice-at.result c.in_ok-place.place c.as_slice.ensures c.requires.at c.index-as_slice-at.is c.in_ok-place.ensures c.requires.states in
    subst (All (λ (m : Move (List (List ℕ))). AreStates state_of_side ds m.to)) (sym c.as_slice-2.ensures)
    (targets-are ds (meet_width (λ (d : MeetSide). 0) ds) c.in_ok-place.place c.in_ok-steps.steps states c.in_ok-steps.ensures.exact c.in_ok-steps.ensures.inhabited)

pub returns-clause-settled : goal.returns-clause-settled
returns-clause-settled c = λ told s is.
    let ds = c.args.meet.now.parts.now in
    let width = meet_width (λ (d : MeetSide). 0) ds in
    let each = subst (All (λ (m : Move (List (List ℕ))). HasOneFor ds c.add_targets.new.places m.to)) c.as_slice-2.ensures c.in_ok-add_targets.ensures.each in
    subst (IsSettled ds width c.add_targets.new.places)
    (read-copied c.args.places.now c.as_slice.result.now c.args.at c.index-as_slice-at.result c.in_ok-place.place s c.as_slice.ensures c.index-as_slice-at.is c.in_ok-place.ensures is)
    (settled-one ds width c.in_ok-place.place c.in_ok-ends.field-0 c.in_ok-steps.steps c.add_targets.new.places c.in_ok-ends.ensures
    (c.is_empty-2.ensures.0 c.if-not-is_empty.false) c.in_ok-steps.ensures.exact each)
