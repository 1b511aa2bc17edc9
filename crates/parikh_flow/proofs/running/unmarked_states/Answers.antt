use Rattle.std.proofs.Common.{◌≡◌, ◌+◌, arith, true, false, sym, subst, ◌∙◌, ◌++◌, ◌∷◌, []}
use Rattle.std.specs.List.Sorted.{IsStrictlyIncreasing}
use Rattle.parikh_flow.proofs.MarkLemmas.{rising-push, members-marked, members-unmarked, mark-read, Members}
use Rattle.parikh_flow.proofs.running.unmarked_states.Goals.{then-not-marks-state+in_ok-push, else-not-marks-state}
use Rattle.parikh_flow.proofs.running.unmarked_states.Goals as goal

pub loop-state-preserved : goal.loop-state-preserved
loop-state-preserved c =
    let inside = c.loop-state-test.true in
    let size = c.requires in
    elim c.if-not-marks-state.branch [
      | then-not-marks-state+in_ok-push w ↦
          let push : c.if-not-marks-state.set ≡ c.loop-state.set ++ c.loop-state.state ∷ [] = w.set-is ∙ w.in_ok-push.ensures.ok in
          record {
            rising = rising-push c.loop-state.set c.if-not-marks-state.set c.loop-state.state push c.loop-state.invariant.rising (λ s k. ((c.loop-state.invariant.members s).0 k).0);
            members = members-unmarked c.args.marks.now c.loop-state.set c.if-not-marks-state.set c.loop-state.state
                (mark-read c.args.marks.now c.loop-state.state false false (omega arith) w.if-not-marks-state.true) push c.loop-state.invariant.members;
          }
      | else-not-marks-state w ↦
          record {
            rising = subst IsStrictlyIncreasing (sym w.set-is) c.loop-state.invariant.rising;
            members = subst (λ l. Members c.args.marks.now l (c.loop-state.state + 1)) (sym w.set-is)
                (members-marked c.args.marks.now c.loop-state.set c.loop-state.state
                (mark-read c.args.marks.now c.loop-state.state false true (omega arith) w.if-not-marks-state.false) c.loop-state.invariant.members);
          }
    ]

pub returns-clause-members : goal.returns-clause-members
returns-clause-members c =
    let h = c.loop-state-test.false in
    let top = c.loop-state.auto.state-end in
    let same : c.loop-state.state ≡ c.args.states = omega arith in
    subst (Members c.args.marks.now c.loop-state.set) same c.loop-state.invariant.members
