use Rattle.std.proofs.Common.{ℕ, ◌+◌, List, take, sym, subst, arith}
use Rattle.machine_core.specs.declared.run.Run.{Run}
use Rattle.farkas_check.specs.Cuts.{values_of}
use Rattle.parikh_flow.specs.Solutions.{HasFlowAt, HaveFlowsAt}
use Rattle.parikh_flow.proofs.FormLemmas.{after-more, after-room}
use Rattle.leaf_solve.proofs.CountLemmas.{flows-more, short-flow}
use Rattle.leaf_solve.proofs.counts.runs_at.Goals as goal

pub run_at-requires-clause-room : goal.run_at-requires-clause-room
run_at-requires-clause-room c =
    let room = after-room c.args.base c.args.machines.now c.loop-machine.machine-index c.machine-item.result c.loop-machine-test.true c.machine-item.is in
    let now = c.loop-machine.invariant.next in
    let all = c.requires.room in
    omega arith

pub run_at-requires-clause-flow : goal.run_at-requires-clause-flow
run_at-requires-clause-flow c =
    short-flow (values_of c.args.point.now) c.args.base c.loop-machine.next c.args.machines.now c.loop-machine.machine-index c.machine-item.result c.requires.flows c.loop-machine-test.true c.machine-item.is c.loop-machine.invariant.next

pub loop-machine-preserved : goal.loop-machine-preserved
loop-machine-preserved c =
    let more = after-more c.args.base c.args.machines.now c.loop-machine.machine-index c.machine-item.result c.loop-machine-test.true c.machine-item.is in
    let now = c.loop-machine.invariant.next in
    let size = c.size_of.ensures in
    record {
      next = omega arith;
      flows = subst (λ (l : List (Run ℕ)). HaveFlowsAt (values_of c.args.point.now) c.args.base (take (c.loop-machine.machine-index + 1) c.args.machines.now) l) (sym c.in_ok-push.ensures.ok)
          (flows-more (values_of c.args.point.now) c.args.base c.args.machines.now c.loop-machine.runs c.loop-machine.machine-index c.machine-item.result c.in_ok-run_at.field-0 c.loop-machine-test.true c.machine-item.is c.loop-machine.invariant.flows
          (subst (λ b. HasFlowAt (values_of c.args.point.now) b c.machine-item.result c.in_ok-run_at.field-0) now c.in_ok-run_at.ensures));
    }

pub size_of-requires : goal.size_of-requires
size_of-requires c =
    let room = after-room c.args.base c.args.machines.now c.loop-machine.machine-index c.machine-item.result c.loop-machine-test.true c.machine-item.is in
    let now = c.loop-machine.invariant.next in
    let all = c.requires.room in
    omega arith

pub overflow_add-next : goal.overflow_add-next
overflow_add-next c =
    let room = after-room c.args.base c.args.machines.now c.loop-machine.machine-index c.machine-item.result c.loop-machine-test.true c.machine-item.is in
    let now = c.loop-machine.invariant.next in
    let all = c.requires.room in
    let size = c.size_of.ensures in
    omega arith
