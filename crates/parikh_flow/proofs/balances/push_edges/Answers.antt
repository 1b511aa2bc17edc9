use Rattle.std.proofs.Common.{[], ap, arith}
use Rattle.machine_core.specs.declared.edge.Edge.{Edge}
use Rattle.parikh_flow.specs.Rows.{edge_balance}
use Rattle.parikh_flow.proofs.FormLemmas.{added-none}
use Rattle.parikh_flow.proofs.BalanceLemmas.{added-nothing, added-more, added-all}
use Rattle.parikh_flow.proofs.balances.push_edges.Goals as goal

pub loop-edge-preserved : goal.loop-edge-preserved
loop-edge-preserved c = record {
  next = (let e = c.loop-edge.invariant.next in omega arith);
  added = added-more edge_balance c.args.base c.loop-edge.edge-index c.loop-edge.unknown c.args.edges.now c.edge-item.result c.args.forms.now.items c.loop-edge.forms.items c.push_edge.new.forms.items
      c.loop-edge-test.true c.edge-item.is c.loop-edge.invariant.next c.loop-edge.invariant.added c.in_ok-push_edge.ensures;
}

pub loop-edge-init : goal.loop-edge-init
loop-edge-init c = record {
  next = omega arith;
  added = added-nothing (λ s. []) c.args.base c.args.base c.args.forms.now.items (omega arith) c.requires.ascend (λ s f. added-none f);
}

pub push_edge-requires-clause-from : goal.push_edge-requires-clause-from
push_edge-requires-clause-from c =
    let at = (c.requires.states c.loop-edge.edge-index c.edge-item.result c.loop-edge-test.true).0 in
    let is = ap (λ (e : Edge). e.from) c.edge-item.is in
    let size = c.loop-edge.invariant.added.size in
    omega arith

pub push_edge-requires-clause-to : goal.push_edge-requires-clause-to
push_edge-requires-clause-to c =
    let at = (c.requires.states c.loop-edge.edge-index c.edge-item.result c.loop-edge-test.true).1 in
    let is = ap (λ (e : Edge). e.to) c.edge-item.is in
    let size = c.loop-edge.invariant.added.size in
    omega arith

pub push_edge-requires-clause-ascend : goal.push_edge-requires-clause-ascend
push_edge-requires-clause-ascend c = c.loop-edge.invariant.added.ascend

pub returns : goal.returns
returns c =
    added-all edge_balance c.args.base c.loop-edge.edge-index c.loop-edge.unknown c.args.edges.now c.args.forms.now.items c.loop-edge.forms.items
    c.loop-edge-test.false c.loop-edge.auto.edge-index-end c.loop-edge.invariant.next c.loop-edge.invariant.added
