use Rattle.std.proofs.Common.{take}
use Rattle.transducer_core.specs.Outputs.{EndsBy, MakesNode}
use Rattle.transducer_core.proofs.output_words.end_node.Given as goal

abbrev pub invariant-loop-end : goal.invariant-loop-end
invariant-loop-end l = MakesNode l.initial.nodes l.nodes l.node (EndsBy (take l.end-index l.ends) l.state)
