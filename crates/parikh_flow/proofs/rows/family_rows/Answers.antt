use Rattle.std.proofs.Common.{◌∙◌, ◌+◌, ◌++◌, List, take, ap, sym, subst, arith}
use Rattle.sv_linear.specs.declared.row.Row.{Row}
use Rattle.parikh_flow.specs.Counts.{size_of}
use Rattle.parikh_flow.specs.Rows.{unknowns_after, machine_rows, family_rows, AreSameRows}
use Rattle.parikh_flow.proofs.FormLemmas.{after-more, after-room, machines-more}
use Rattle.parikh_flow.proofs.RowLemmas.{same-append}
use Rattle.parikh_flow.proofs.rows.family_rows.Goals as goal

pub machine_rows-requires : goal.machine_rows-requires
machine_rows-requires c =
    let room = after-room c.args.base c.args.machines.now c.loop-machine.machine-index c.machine-item.result c.loop-machine-test.true c.machine-item.is in
    let now = c.loop-machine.invariant.next in
    let few = c.requires in
    omega arith

pub next_base-next-requires : goal.next_base-next-requires
next_base-next-requires c =
    let room = after-room c.args.base c.args.machines.now c.loop-machine.machine-index c.machine-item.result c.loop-machine-test.true c.machine-item.is in
    let now = c.loop-machine.invariant.next in
    let few = c.requires in
    omega arith

pub loop-machine-preserved : goal.loop-machine-preserved
loop-machine-preserved c = record {
  next = c.next_base-next.ensures ∙ ap (λ n. n + size_of c.machine-item.result) c.loop-machine.invariant.next
      ∙ sym (after-more c.args.base c.args.machines.now c.loop-machine.machine-index c.machine-item.result c.loop-machine-test.true c.machine-item.is);
  rows =
      subst (AreSameRows c.append.new.self) (sym (machines-more c.args.base c.args.machines.now c.loop-machine.machine-index c.machine-item.result c.loop-machine-test.true c.machine-item.is machine_rows))
      (subst (λ (l : List Row). AreSameRows l (family_rows c.args.base (take c.loop-machine.machine-index c.args.machines.now) ++ machine_rows (unknowns_after c.args.base (take c.loop-machine.machine-index c.args.machines.now)) c.machine-item.result)) (sym c.in_ok-append.ensures.ok)
      (same-append c.loop-machine.rows c.in_ok-machine_rows.field-0 (family_rows c.args.base (take c.loop-machine.machine-index c.args.machines.now))
      (machine_rows (unknowns_after c.args.base (take c.loop-machine.machine-index c.args.machines.now)) c.machine-item.result) c.loop-machine.invariant.rows
      (subst (λ b. AreSameRows c.in_ok-machine_rows.field-0 (machine_rows b c.machine-item.result)) c.loop-machine.invariant.next c.in_ok-machine_rows.ensures)));
}
