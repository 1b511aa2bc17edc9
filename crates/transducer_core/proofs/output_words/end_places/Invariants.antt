use Rattle.transducer_core.specs.Outputs.{EndsBy, MakesPlaces}
use Rattle.transducer_core.proofs.output_words.end_places.Given as goal

abbrev pub invariant-loop-state : goal.invariant-loop-state
invariant-loop-state l = MakesPlaces l.initial.nodes l.nodes l.state l.places (EndsBy l.transducer.ends)
