use Rattle.std.proofs.Common.{drop}
use Rattle.sv_terms.specs.Transduction.{Writes}
use Rattle.transducer_core.specs.Outputs.{MakesPlaces}
use Rattle.transducer_core.proofs.output_words.all_nodes.Given as goal

abbrev pub invariant-loop-i : goal.invariant-loop-i
invariant-loop-i l = MakesPlaces l.initial.nodes l.nodes l.transducer.states l.places (λ s w. Writes l.transducer s (drop l.i l.read) w)
