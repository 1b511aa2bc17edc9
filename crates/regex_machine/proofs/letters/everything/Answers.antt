use Rattle.std.proofs.Common.{length, ap, sym, ◌∙◌}
use Rattle.regex_machine.proofs.LetterLemmas.{at-most, everything-reads, only-edge, only-end}
use Rattle.regex_machine.proofs.letters.everything.Goals as goal

pub returns-clause-reads : goal.returns-clause-reads
returns-clause-reads c =
    let m = c.in_ok-machine.machine in
    let one = c.add_edge.new.self in
    let two = c.add_end.new.self in
    let on = c.in_ok-on.on in
    everything-reads on c.in_ok-on.ensures.set two
    (c.in_ok-add_end.ensures.registers ∙ c.in_ok-add_edge.ensures.registers ∙ c.in_ok-machine.ensures.registers)
    (c.in_ok-add_end.ensures.edges ∙ only-edge m.edges one.edges 0 on c.new-cost.result 0 c.in_ok-add_edge.ensures.ok c.in_ok-machine.ensures.edges c.new-cost.ensures)
    (only-end one.ends two.ends 0 c.new-last.result c.in_ok-add_end.ensures.ok (c.in_ok-add_edge.ensures.ends ∙ c.in_ok-machine.ensures.ends) c.new-last.ensures)

pub add_edge-requires : goal.add_edge-requires
add_edge-requires c = record {
  from = c.in_ok-machine.machine.started;
  to = c.in_ok-machine.machine.started;
  cost = ap length c.new-cost.ensures ∙ sym c.in_ok-machine.ensures.registers;
  on = c.in_ok-on.ensures.inhabited;
}

pub add_end-requires : goal.add_end-requires
add_end-requires c = record {
  at = c.add_edge.new.self.started;
  cost = ap length c.new-last.ensures ∙ sym (c.in_ok-add_edge.ensures.registers ∙ c.in_ok-machine.ensures.registers);
}

pub returns-clause-states : goal.returns-clause-states
returns-clause-states c = at-most c.add_end.new.self.states 1 (c.in_ok-add_end.ensures.states ∙ c.in_ok-add_edge.ensures.states ∙ c.in_ok-machine.ensures.states)
