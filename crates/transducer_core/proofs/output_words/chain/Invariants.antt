use Rattle.std.proofs.Common.{drop}
use Rattle.transducer_core.specs.Nodes.{IsChain}
use Rattle.transducer_core.proofs.output_words.chain.Given as goal

abbrev pub invariant-loop-i : goal.invariant-loop-i
invariant-loop-i l = IsChain l.initial.nodes l.nodes (drop l.i l.text) l.target l.place
