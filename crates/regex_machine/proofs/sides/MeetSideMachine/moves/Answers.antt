use Rattle.std.proofs.lemmas.Result.{IfOk-weaker}
use Rattle.regex_machine.proofs.SideLemmas.{others-moves, others-state, one-filled, one-lt, one-moves, lists-inhabited}
use Rattle.regex_machine.proofs.sides.MeetSideMachine.moves.Goals as goal

pub moves-requires : goal.moves-requires
moves-requires c =
    let s = c.args.self.now in
    others-state s.others s.part.now c.of-subset.result.machine.now c.of-subset.result.negated c.args.at.now c.if-others.true c.of-subset.ensures.machine c.of-subset.ensures.negated c.requires

pub returns-then-others-clause-exact : goal.returns-then-others-clause-exact
returns-then-others-clause-exact c =
    let s = c.args.self.now in
    IfOk-weaker c.moves.result _ _ (others-moves s.others s.part.now c.of-subset.result.machine.now c.of-subset.result.negated c.args.at.now c.if-others.true c.of-subset.ensures.machine c.of-subset.ensures.negated) c.moves.ensures.exact

pub bounds-list-0 : goal.bounds-list-0
bounds-list-0 c =
    let s = c.args.self.now in
    one-filled s.others s.part.now c.args.at.now c.as_slice-list.result.now c.if-others.false c.requires c.as_slice-list.ensures

pub moves-requires-2 : goal.moves-requires-2
moves-requires-2 c =
    let s = c.args.self.now in
    one-lt s.others s.part.now c.args.at.now c.as_slice-list.result.now c.if-others.false c.requires c.as_slice-list.ensures

pub returns-clause-exact : goal.returns-clause-exact
returns-clause-exact c =
    let s = c.args.self.now in
    IfOk-weaker c.to_lists.result _ _ (λ all. one-moves s.others s.part.now c.args.at.now c.as_slice-list.result.now c.if-others.false c.requires c.as_slice-list.ensures s.plain c.in_ok-steps.steps all c.in_ok-steps.ensures.exact) c.to_lists.ensures

pub returns-clause-inhabited : goal.returns-clause-inhabited
returns-clause-inhabited c = IfOk-weaker c.to_lists.result _ _ (λ all is. lists-inhabited c.in_ok-steps.steps all is c.in_ok-steps.ensures.inhabited) c.to_lists.ensures
