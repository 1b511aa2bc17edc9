use Rattle.std.proofs.Common.{◌≡◌, map, drop}
use Rattle.smt_names.specs.Form.{forms, seen}
use Rattle.transducer_form.specs.Descriptions.{list_behind, each, edge_of}
use Rattle.transducer_form.proofs.reading.edges.Given as goal

abbrev pub invariant-loop-part : goal.invariant-loop-part
invariant-loop-part l = list_behind l.all (each (edge_of l.states.keys) (forms (map seen (drop l.part-index l.parts)))) ≡ each (edge_of l.states.keys) (forms (map seen l.parts))
