use Rattle.std.proofs.Common.{◌<◌, ◌≤◌, length, ap, sym, ◌∙◌, subst, arith}
use Rattle.part_machines.proofs.TableLemmas.{last-below, last-fits, leg-added, no-character, no-state}
use Rattle.part_machines.proofs.table.add_leg.Goals as goal

pub returns-clause-steps : goal.returns-clause-steps
returns-clause-steps c =
    let some = c.if-stop-start.false in
    let among = c.if-states-to.false in
    let states = c.states.ensures in
    leg-added c.args.at c.args.start c.args.stop c.args.to c.args.machine.now.states c.in_ok-on.on c.new-cost.result c.args.machine.now.edges _ (omega (arith, some)) (omega (arith, among, states))
    c.in_ok-on.ensures.set c.new-cost.ensures c.in_ok-add_edge.ensures.ok

pub of-requires : goal.of-requires
of-requires c = last-fits c.args.stop c.requires.stop

pub add_edge-requires : goal.add_edge-requires
add_edge-requires c = record {
  from = c.requires.at;
  to = subst (λ n. c.args.to < n) c.states.ensures c.if-states-to.false;
  cost = ap length c.new-cost.ensures ∙ sym c.requires.plain;
  on = c.in_ok-on.ensures.inhabited (last-below c.args.start c.args.stop c.if-stop-start.false);
}

pub returns-then-stop-start-clause-steps : goal.returns-then-stop-start-clause-steps
returns-then-stop-start-clause-steps c = no-character c.args.at c.args.start c.args.stop c.args.to c.args.machine.now.states c.args.machine.now.edges c.if-stop-start.true

pub returns-then-states-to-clause-steps : goal.returns-then-states-to-clause-steps
returns-then-states-to-clause-steps c =
    no-state c.args.at c.args.start c.args.stop c.args.to c.args.machine.now.states c.args.machine.now.edges (subst (λ n. n ≤ c.args.to) c.states.ensures c.if-states-to.true)
