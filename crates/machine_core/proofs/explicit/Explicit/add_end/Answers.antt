use Rattle.std.proofs.Common.{◌∙◌, ap}
use Rattle.machine_core.specs.EdgeLaws.{listed_top-end}
use Rattle.machine_core.specs.Edges.{ending}
use Rattle.machine_core.proofs.FormedLemmas.{got, formed-end-pushed, indexed-end}
use Rattle.machine_core.proofs.PushLemmas.{popped, failed}
use Rattle.machine_core.proofs.explicit.Explicit.add_end.Goals as goal

pub invariant_of-self-inside : goal.invariant_of-self-inside
invariant_of-self-inside c = record {
  started = c.self.inside.graph.started;
  formed = formed-end-pushed c.push.result c.self.inside.graph.states c.self.inside.graph.registers c.self.inside.graph.edges c.self.inside.graph.edges c.self.inside.graph.ends c.push.new.self c.self.inside.graph.formed
      (ending c.args.at c.args.cost)
      (rw c.self.view_is (record { at = c.requires.at; cost = c.requires.cost }))
      c.push.ensures.ok c.push.ensures.err;
}

pub invariant_of-self-else-is_err : goal.invariant_of-self-else-is_err
invariant_of-self-else-is_err c =
    indexed-end c.self.inside.graph.states c.self.inside.graph.edges c.self.inside.graph.ends c.self.inside.edge_places c.self.inside.end_places c.self.invariant
    (ending c.args.at c.args.cost) c.push.new.self c.add.new.self c.len-place.result
    c.in_ok-push.ensures.ok c.len-place.ensures (got c.add.result c.is_err.result c.add.ensures.ok c.is_err.ensures.value c.if-is_err.false)

pub returns-clause-top : goal.returns-clause-top
returns-clause-top c = rw (← c.self.view_is) (listed_top-end c.self.inside.graph.edges c.self.inside.graph.ends c.push.new.self (ending c.args.at c.args.cost) c.in_ok-push.ensures.ok)

pub invariant_of-self : goal.invariant_of-self
invariant_of-self c = rw c.in_err-push.ensures.err c.self.invariant

pub add-requires : goal.add-requires
add-requires c = rw (c.self.invariant.end_rows, c.self.view_is) c.requires.at

pub invariant_of-self-inside-then-is_err : goal.invariant_of-self-inside-then-is_err
invariant_of-self-inside-then-is_err c = record {
  started = c.self.inside.graph.started;
  formed = rw (popped c.pop-end.result c.push.new.self c.pop-end.new.self c.self.inside.graph.ends _ c.pop-end.ensures c.in_ok-push.ensures.ok) c.self.inside.graph.formed;
}

pub invariant_of-self-then-is_err : goal.invariant_of-self-then-is_err
invariant_of-self-then-is_err c =
    let same = popped c.pop-end.result c.push.new.self c.pop-end.new.self c.self.inside.graph.ends _ c.pop-end.ensures c.in_ok-push.ensures.ok in
    rw (same, failed c.add.result c.is_err.result c.add.ensures.err c.is_err.ensures.value c.if-is_err.true) c.self.invariant

pub returns-then-is_err-clause-err : goal.returns-then-is_err-clause-err
returns-then-is_err-clause-err c = popped c.pop-end.result c.push.new.self c.pop-end.new.self c.self.inside.graph.ends _ c.pop-end.ensures c.in_ok-push.ensures.ok ∙ ap (λ g. g.ends) c.self.view_is

pub returns-clause-ok : goal.returns-clause-ok
returns-clause-ok c = rw (← c.self.view_is) c.in_ok-push.ensures.ok

pub returns-in_err-push-clause-states : goal.returns-in_err-push-clause-states
returns-in_err-push-clause-states c = ap (λ g. g.states) c.self.view_is

pub returns-in_err-push-clause-registers : goal.returns-in_err-push-clause-registers
returns-in_err-push-clause-registers c = ap (λ g. g.registers) c.self.view_is

pub returns-in_err-push-clause-edges : goal.returns-in_err-push-clause-edges
returns-in_err-push-clause-edges c = ap (λ g. g.edges) c.self.view_is

pub returns-then-is_err-clause-states : goal.returns-then-is_err-clause-states
returns-then-is_err-clause-states c = ap (λ g. g.states) c.self.view_is

pub returns-then-is_err-clause-registers : goal.returns-then-is_err-clause-registers
returns-then-is_err-clause-registers c = ap (λ g. g.registers) c.self.view_is

pub returns-then-is_err-clause-edges : goal.returns-then-is_err-clause-edges
returns-then-is_err-clause-edges c = ap (λ g. g.edges) c.self.view_is

pub returns-clause-states : goal.returns-clause-states
returns-clause-states c = ap (λ g. g.states) c.self.view_is

pub returns-clause-registers : goal.returns-clause-registers
returns-clause-registers c = ap (λ g. g.registers) c.self.view_is

pub returns-clause-edges : goal.returns-clause-edges
returns-clause-edges c = ap (λ g. g.edges) c.self.view_is
