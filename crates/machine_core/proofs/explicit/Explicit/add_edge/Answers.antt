use Rattle.std.proofs.Common.{◌∙◌, ap}
use Rattle.machine_core.specs.EdgeLaws.{listed_top-edge}
use Rattle.machine_core.specs.Edges.{edge}
use Rattle.machine_core.proofs.FormedLemmas.{got, formed-edge-pushed, indexed-edge, apart-characters}
use Rattle.machine_core.proofs.PushLemmas.{popped, failed}
use Rattle.machine_core.proofs.explicit.Explicit.add_edge.Goals as goal

pub invariant_of-self-inside : goal.invariant_of-self-inside
invariant_of-self-inside c = record {
  started = c.self.inside.graph.started;
  formed = formed-edge-pushed c.push.result c.self.inside.graph.states c.self.inside.graph.registers c.self.inside.graph.edges c.push.new.self c.self.inside.graph.ends c.self.inside.graph.ends c.self.inside.graph.formed
      (edge c.args.from c.args.on c.args.cost c.args.to)
      (rw c.self.view_is (record { from = c.requires.from; to = c.requires.to; cost = c.requires.cost; on = c.requires.on; characters = apart-characters 0 c.args.on c.as_slice-characters.ensures.apart }))
      c.push.ensures.ok c.push.ensures.err;
}

pub invariant_of-self-else-is_err : goal.invariant_of-self-else-is_err
invariant_of-self-else-is_err c =
    indexed-edge c.self.inside.graph.states c.self.inside.graph.edges c.self.inside.graph.ends c.self.inside.edge_places c.self.inside.end_places c.self.invariant
    (edge c.args.from c.args.on c.args.cost c.args.to) c.push.new.self c.add.new.self c.len-place.result
    c.in_ok-push.ensures.ok c.len-place.ensures (got c.add.result c.is_err.result c.add.ensures.ok c.is_err.ensures.value c.if-is_err.false)

pub returns-clause-top : goal.returns-clause-top
returns-clause-top c = rw (← c.self.view_is) (listed_top-edge c.self.inside.graph.edges c.push.new.self c.self.inside.graph.ends (edge c.args.from c.args.on c.args.cost c.args.to) c.in_ok-push.ensures.ok)

pub invariant_of-self : goal.invariant_of-self
invariant_of-self c = rw c.in_err-push.ensures.err c.self.invariant

pub add-requires : goal.add-requires
add-requires c = rw (c.self.invariant.edge_rows, c.self.view_is) c.requires.from

pub invariant_of-self-inside-then-is_err : goal.invariant_of-self-inside-then-is_err
invariant_of-self-inside-then-is_err c = record {
  started = c.self.inside.graph.started;
  formed = rw (popped c.pop-edge.result c.push.new.self c.pop-edge.new.self c.self.inside.graph.edges _ c.pop-edge.ensures c.in_ok-push.ensures.ok) c.self.inside.graph.formed;
}

pub invariant_of-self-then-is_err : goal.invariant_of-self-then-is_err
invariant_of-self-then-is_err c =
    let same = popped c.pop-edge.result c.push.new.self c.pop-edge.new.self c.self.inside.graph.edges _ c.pop-edge.ensures c.in_ok-push.ensures.ok in
    rw (same, failed c.add.result c.is_err.result c.add.ensures.err c.is_err.ensures.value c.if-is_err.true) c.self.invariant

pub returns-then-is_err-clause-err : goal.returns-then-is_err-clause-err
returns-then-is_err-clause-err c = popped c.pop-edge.result c.push.new.self c.pop-edge.new.self c.self.inside.graph.edges _ c.pop-edge.ensures c.in_ok-push.ensures.ok ∙ ap (λ g. g.edges) c.self.view_is

pub returns-clause-ok : goal.returns-clause-ok
returns-clause-ok c = rw (← c.self.view_is) c.in_ok-push.ensures.ok

pub returns-in_err-push-clause-states : goal.returns-in_err-push-clause-states
returns-in_err-push-clause-states c = ap (λ g. g.states) c.self.view_is

pub returns-in_err-push-clause-registers : goal.returns-in_err-push-clause-registers
returns-in_err-push-clause-registers c = ap (λ g. g.registers) c.self.view_is

pub returns-in_err-push-clause-ends : goal.returns-in_err-push-clause-ends
returns-in_err-push-clause-ends c = ap (λ g. g.ends) c.self.view_is

pub returns-then-is_err-clause-states : goal.returns-then-is_err-clause-states
returns-then-is_err-clause-states c = ap (λ g. g.states) c.self.view_is

pub returns-then-is_err-clause-registers : goal.returns-then-is_err-clause-registers
returns-then-is_err-clause-registers c = ap (λ g. g.registers) c.self.view_is

pub returns-then-is_err-clause-ends : goal.returns-then-is_err-clause-ends
returns-then-is_err-clause-ends c = ap (λ g. g.ends) c.self.view_is

pub returns-clause-states : goal.returns-clause-states
returns-clause-states c = ap (λ g. g.states) c.self.view_is

pub returns-clause-registers : goal.returns-clause-registers
returns-clause-registers c = ap (λ g. g.registers) c.self.view_is

pub returns-clause-ends : goal.returns-clause-ends
returns-clause-ends c = ap (λ g. g.ends) c.self.view_is
