use Rattle.std.proofs.Common.{length, ap, sym, ◌∙◌}
use Rattle.part_machines.proofs.TableLemmas.{end-added, end-left-out, left-out, taken}
use Rattle.part_machines.proofs.table.add_end.Goals as goal

pub returns-then-at-last-clause-ends : goal.returns-then-at-last-clause-ends
returns-then-at-last-clause-ends c = end-left-out c.args.machine.now.ends c.args.at c.args.last c.args.holds (left-out c.args.at c.args.last c.args.holds c.if-at-last.true)

pub add_end-requires-clause-at : goal.add_end-requires-clause-at
add_end-requires-clause-at c = c.requires.at

pub add_end-requires-clause-cost : goal.add_end-requires-clause-cost
add_end-requires-clause-cost c = ap length c.new-cost.ensures ∙ sym c.requires.plain

pub returns-clause-states : goal.returns-clause-states
returns-clause-states c = c.in_ok-add_end.ensures.states

pub returns-clause-registers : goal.returns-clause-registers
returns-clause-registers c = c.in_ok-add_end.ensures.registers

pub returns-clause-edges : goal.returns-clause-edges
returns-clause-edges c = c.in_ok-add_end.ensures.edges

pub returns-clause-ends : goal.returns-clause-ends
returns-clause-ends c = end-added c.args.machine.now.ends c.add_end.new.self.ends c.args.at c.args.last c.args.holds c.new-cost.result (taken c.args.at c.args.last c.args.holds c.if-at-last.false) c.new-cost.ensures c.in_ok-add_end.ensures.ok
