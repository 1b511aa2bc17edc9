use Rattle.std.proofs.lemmas.Result.{IfOk-weaker}
use Rattle.regex_machine.proofs.SideLemmas.{others-ends, others-state, one-filled, one-lt, one-ends}
use Rattle.regex_machine.proofs.sides.MeetSideMachine.ends.Goals as goal

pub ends-requires : goal.ends-requires
ends-requires c =
    let s = c.args.self.now in
    others-state s.others s.part.now c.of-subset.result.machine.now c.of-subset.result.negated c.args.at.now c.if-others.true c.of-subset.ensures.machine c.of-subset.ensures.negated c.requires

pub returns-then-others : goal.returns-then-others
returns-then-others c =
    let s = c.args.self.now in
    IfOk-weaker c.ends.result _ _ (others-ends s.others s.part.now c.of-subset.result.machine.now c.of-subset.result.negated c.args.at.now c.if-others.true c.of-subset.ensures.machine c.of-subset.ensures.negated) c.ends.ensures

pub bounds-list-0 : goal.bounds-list-0
bounds-list-0 c =
    let s = c.args.self.now in
    one-filled s.others s.part.now c.args.at.now c.as_slice-list.result.now c.if-others.false c.requires c.as_slice-list.ensures

pub may_end-may-requires-clause-at : goal.may_end-may-requires-clause-at
may_end-may-requires-clause-at c =
    let s = c.args.self.now in
    one-lt s.others s.part.now c.args.at.now c.as_slice-list.result.now c.if-others.false c.requires c.as_slice-list.ensures

pub returns : goal.returns
returns c =
    let s = c.args.self.now in
    IfOk-weaker c.ends_if.result _ _ (λ costs. one-ends s.others s.part.now c.args.at.now c.as_slice-list.result.now c.if-others.false c.requires c.as_slice-list.ensures s.plain costs c.may_end-may.result c.may_end-may.ensures) c.ends_if.ensures
