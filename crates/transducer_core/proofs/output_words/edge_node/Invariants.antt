use Rattle.std.proofs.Common.{take}
use Rattle.transducer_core.specs.Outputs.{OverEdges, MakesNode}
use Rattle.transducer_core.proofs.output_words.edge_node.Given as goal

abbrev pub invariant-loop-edge : goal.invariant-loop-edge
invariant-loop-edge l = MakesNode l.initial.nodes l.nodes l.node (OverEdges l.initial.nodes l.places l.state l.c (take l.edge-index l.edges))
