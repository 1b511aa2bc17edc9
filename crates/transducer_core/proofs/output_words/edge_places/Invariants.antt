use Rattle.transducer_core.specs.Outputs.{MakesPlaces, OverEdges}
use Rattle.transducer_core.proofs.output_words.edge_places.Given as goal

abbrev pub invariant-loop-state : goal.invariant-loop-state
invariant-loop-state l = MakesPlaces l.initial.nodes l.nodes l.state l.more (λ s w. OverEdges l.initial.nodes l.places s l.c l.transducer.edges w)
