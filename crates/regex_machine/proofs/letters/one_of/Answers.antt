use Rattle.std.proofs.Common.{◌≡◌, [], length, ap, sym, ◌∙◌, subst}
use Rattle.std.proofs.lemmas.Result.{IfOk-weaker}
use Rattle.std.specs.Bool.{OnTrue}
use Rattle.regex_machine.proofs.LetterLemmas.{at-most, has-second, one_of-reads, none_of-reads, only-edge, only-end}
use Rattle.regex_machine.proofs.letters.one_of.Goals as goal

pub returns-clause-reads : goal.returns-clause-reads
returns-clause-reads c =
    let m = c.in_ok-machine.machine in
    let one = c.add_edge.new.self in
    let two = c.add_end.new.self in
    let on = c.args.on in
    one_of-reads on two
    (c.in_ok-add_end.ensures.registers ∙ c.in_ok-add_edge.ensures.registers ∙ c.in_ok-machine.ensures.registers)
    (c.in_ok-add_end.ensures.edges ∙ only-edge m.edges one.edges 0 on c.new-cost.result 1 c.in_ok-add_edge.ensures.ok c.in_ok-machine.ensures.edges c.new-cost.ensures)
    (only-end one.ends two.ends 1 c.new-last.result c.in_ok-add_end.ensures.ok (c.in_ok-add_edge.ensures.ends ∙ c.in_ok-machine.ensures.ends) c.new-last.ensures)

pub returns-then-is_empty-clause-reads : goal.returns-then-is_empty-clause-reads
returns-then-is_empty-clause-reads c =
    let empty = subst (λ b. OnTrue b (c.args.on ≡ [])) c.if-is_empty.true c.is_empty.ensures.empty in
    IfOk-weaker c.nothing.result _ _ (none_of-reads c.args.on empty) c.nothing.ensures.reads

pub add_edge-requires-clause-from : goal.add_edge-requires-clause-from
add_edge-requires-clause-from c = c.in_ok-machine.machine.started

pub add_edge-requires-clause-to : goal.add_edge-requires-clause-to
add_edge-requires-clause-to c = has-second c.in_ok-machine.machine.states c.in_ok-machine.ensures.states

pub add_edge-requires-clause-cost : goal.add_edge-requires-clause-cost
add_edge-requires-clause-cost c = ap length c.new-cost.ensures ∙ sym c.in_ok-machine.ensures.registers

pub add_end-requires : goal.add_end-requires
add_end-requires c = record {
  at = has-second c.add_edge.new.self.states (c.in_ok-add_edge.ensures.states ∙ c.in_ok-machine.ensures.states);
  cost = ap length c.new-last.ensures ∙ sym (c.in_ok-add_edge.ensures.registers ∙ c.in_ok-machine.ensures.registers);
}

pub returns-clause-states : goal.returns-clause-states
returns-clause-states c = at-most c.add_end.new.self.states 2 (c.in_ok-add_end.ensures.states ∙ c.in_ok-add_edge.ensures.states ∙ c.in_ok-machine.ensures.states)
