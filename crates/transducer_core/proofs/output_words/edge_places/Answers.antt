use Rattle.std.proofs.Common.{◌↔◌, Contains, sym, subst}
use Rattle.transducer_core.specs.Outputs.{OverEdges}
use Rattle.transducer_core.proofs.OutputLemmas.{over_all_same, places_grown, places_more}
use Rattle.transducer_core.proofs.output_words.edge_places.Goals as goal

pub edge_node-requires-clause-to : goal.edge_node-requires-clause-to
edge_node-requires-clause-to c e has = c.requires.to e (subst (λ es. Contains es e) c.as_slice.ensures has)

pub edge_node-requires-clause-places : goal.edge_node-requires-clause-places
edge_node-requires-clause-places c = places_grown c.args.nodes.now c.loop-state.nodes c.args.places.now c.loop-state.invariant.grown c.requires.places

pub loop-state-preserved : goal.loop-state-preserved
loop-state-preserved c =
    let edges = c.args.transducer.now.edges in
    let i = c.loop-state.state in
    let ns = c.args.nodes.now in
    let ms = c.loop-state.nodes in
    let ps = c.args.places.now in
    places_more ns ms c.edge_node.new.nodes c.push_node.new.nodes c.loop-state.more c.push.new.self i c.in_ok-push_node.field-0 c.in_ok-node.node
    (λ s w. OverEdges ns ps s c.args.c edges w) (OverEdges ms ps i c.args.c c.as_slice.result.now) c.loop-state.invariant c.in_ok-node.ensures
    (λ w. subst (λ es. OverEdges ms ps i c.args.c es w ↔ OverEdges ns ps i c.args.c edges w) (sym c.as_slice.ensures) (over_all_same ns ms ps i c.args.c edges c.requires.closed c.loop-state.invariant.grown c.requires.places w))
    c.in_ok-push_node.ensures.ok c.in_ok-push_node.ensures.place c.in_ok-push.ensures.ok
