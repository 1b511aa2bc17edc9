use Rattle.std.proofs.Common.{◌∙◌, ◌+◌, All, take, ap, sym, subst, arith}
use Rattle.std.proofs.lemmas.List.Elements.{All-more}
use Rattle.sv_linear.specs.Terms.{AscendsWithin}
use Rattle.parikh_flow.specs.Counts.{size_of}
use Rattle.parikh_flow.specs.Rows.{unknowns_after, machine_terms, family_terms, edge_cost, end_cost}
use Rattle.parikh_flow.specs.Building.{AreTermsAdded, CostsFit}
use Rattle.parikh_flow.proofs.FormLemmas.{after-most, after-more, after-room, machines-more, added-join, all-taken}
use Rattle.parikh_flow.proofs.rows.register_row.Goals as goal

pub overflow_add-integers : goal.overflow_add-integers
overflow_add-integers c = let most = after-most (c.args.integers + c.args.registers) c.args.machines.now in let room = c.requires.room in let lt = c.requires.register in omega arith

pub overflow_add-base : goal.overflow_add-base
overflow_add-base c = let most = after-most (c.args.integers + c.args.registers) c.args.machines.now in let room = c.requires.room in omega arith

pub push_costs-requires-clause-room : goal.push_costs-requires-clause-room
push_costs-requires-clause-room c =
    let room = after-room (c.args.integers + c.args.registers) c.args.machines.now c.loop-machine.machine-index c.machine-item.result c.loop-machine-test.true c.machine-item.is in
    let now = c.loop-machine.invariant.next in
    let few = c.requires.room in
    omega arith

pub next_base-base-requires : goal.next_base-base-requires
next_base-base-requires c =
    let room = after-room (c.args.integers + c.args.registers) c.args.machines.now c.loop-machine.machine-index c.machine-item.result c.loop-machine-test.true c.machine-item.is in
    let now = c.loop-machine.invariant.next in
    let few = c.requires.room in
    omega arith

pub loop-machine-preserved : goal.loop-machine-preserved
loop-machine-preserved c = record {
  next = c.next_base-base.ensures ∙ ap (λ n. n + size_of c.machine-item.result) c.loop-machine.invariant.next
      ∙ sym (after-more (c.args.integers + c.args.registers) c.args.machines.now c.loop-machine.machine-index c.machine-item.result c.loop-machine-test.true c.machine-item.is);
  added =
      subst (λ ts. AreTermsAdded ts c.push.new.self c.push_costs.new.form)
      (sym (machines-more (c.args.integers + c.args.registers) c.args.machines.now c.loop-machine.machine-index c.machine-item.result c.loop-machine-test.true c.machine-item.is (machine_terms (edge_cost c.args.register) (end_cost c.args.register))))
      (added-join (family_terms (edge_cost c.args.register) (end_cost c.args.register) (c.args.integers + c.args.registers) (take c.loop-machine.machine-index c.args.machines.now))
      (machine_terms (edge_cost c.args.register) (end_cost c.args.register) (unknowns_after (c.args.integers + c.args.registers) (take c.loop-machine.machine-index c.args.machines.now)) c.machine-item.result)
      c.push.new.self c.loop-machine.form c.push_costs.new.form c.loop-machine.invariant.added
      (subst (λ b. AreTermsAdded (machine_terms (edge_cost c.args.register) (end_cost c.args.register) b c.machine-item.result) c.loop-machine.form c.push_costs.new.form) c.loop-machine.invariant.next c.in_ok-push_costs.ensures.added));
  ascends = subst (λ n. AscendsWithin 0 n c.push_costs.new.form.coefficients) (sym c.next_base-base.ensures) c.in_ok-push_costs.ensures.ascends;
  fit = All-more (CostsFit c.args.register) c.args.machines.now c.loop-machine.machine-index c.machine-item.result c.loop-machine-test.true c.loop-machine.invariant.fit
      (subst (CostsFit c.args.register) c.machine-item.is c.in_ok-push_costs.ensures.fit);
}

pub returns-clause-fit : goal.returns-clause-fit
returns-clause-fit c = subst (All (CostsFit c.args.register)) (all-taken c.args.machines.now c.loop-machine.machine-index (omega arith) (omega arith)).0 c.loop-machine.invariant.fit
