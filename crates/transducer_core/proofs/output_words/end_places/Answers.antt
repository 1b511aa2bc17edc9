use Rattle.std.proofs.Common.{◌↔◌, sym, subst}
use Rattle.transducer_core.specs.Outputs.{EndsBy}
use Rattle.transducer_core.proofs.OutputLemmas.{base_grown, places_more}
use Rattle.transducer_core.proofs.output_words.end_places.Goals as goal

pub end_node-requires : goal.end_node-requires
end_node-requires c = base_grown c.args.nodes.now c.loop-state.nodes c.requires c.loop-state.invariant.grown

pub loop-state-preserved : goal.loop-state-preserved
loop-state-preserved c =
    let ends = c.args.transducer.now.ends in
    let i = c.loop-state.state in
    places_more c.args.nodes.now c.loop-state.nodes c.end_node.new.nodes c.push_node.new.nodes c.loop-state.places c.push.new.self i c.in_ok-push_node.field-0 c.in_ok-node.node
    (EndsBy ends) (EndsBy c.as_slice.result.now i) c.loop-state.invariant c.in_ok-node.ensures
    (λ w. subst (λ es. EndsBy es i w ↔ EndsBy ends i w) (sym c.as_slice.ensures) (λ h. h, λ h. h))
    c.in_ok-push_node.ensures.ok c.in_ok-push_node.ensures.place c.in_ok-push.ensures.ok
