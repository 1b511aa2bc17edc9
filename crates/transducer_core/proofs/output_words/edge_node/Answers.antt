use Rattle.std.proofs.Common.{◌<◌, ◌+◌, inl, inr, ⊎_elim, [], length, take, sym, arith}
use Rattle.sv_list.specs.Lists.{Contains-none}
use Rattle.transducer_core.specs.Outputs.{OverEdge, OverEdges}
use Rattle.transducer_core.proofs.OutputLemmas.{edges_more, made_more, made_none, over_same, places_grown}
use Rattle.transducer_core.proofs.output_words.edge_node.Goals as goal

pub loop-edge-init : goal.loop-edge-init
loop-edge-init c = made_none c.args.nodes.now c.empty-node.result (OverEdges c.args.nodes.now c.args.places.now c.args.state c.args.c []) c.requires.closed c.empty-node.ensures.firsts c.empty-node.ensures.ends (λ w has. Contains-none has.0 has.1)

pub add_edge-requires-clause-to : goal.add_edge-requires-clause-to
add_edge-requires-clause-to c = c.requires.to c.edge-item.result (c.loop-edge.edge-index, omega arith, sym c.edge-item.is)

pub add_edge-requires-clause-places : goal.add_edge-requires-clause-places
add_edge-requires-clause-places c = places_grown c.args.nodes.now c.loop-edge.nodes c.args.places.now c.loop-edge.invariant.grown c.requires.places

pub loop-edge-preserved : goal.loop-edge-preserved
loop-edge-preserved c =
    let i = c.loop-edge.edge-index in
    let ns = c.args.nodes.now in
    let ms = c.loop-edge.nodes in
    let ps = c.args.places.now in
    let e = c.edge-item.result in
    let low : c.loop-edge.edge-index < length c.args.edges.now = omega arith in
    made_more ns ms c.add_edge.new.nodes c.loop-edge.node c.add_edge.new.node (OverEdges ns ps c.args.state c.args.c (take i c.args.edges.now)) (OverEdge ms ps c.args.state c.args.c e) (OverEdges ns ps c.args.state c.args.c (take (i + 1) c.args.edges.now))
    c.loop-edge.invariant c.in_ok-add_edge.ensures
    (λ w. let more = edges_more ns ps c.args.edges.now i c.args.state c.args.c e low c.edge-item.is w in
    let same = over_same ns ms ps c.args.state c.args.c e c.requires.closed c.loop-edge.invariant.grown c.requires.places w in
    (λ k. ⊎_elim inl (λ x. inr (same.1 x)) (more.0 k), λ k. more.1 (⊎_elim inl (λ x. inr (same.0 x)) k)))
