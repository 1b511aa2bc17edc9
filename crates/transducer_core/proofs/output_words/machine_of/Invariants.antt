use Rattle.std.proofs.Common.{◌≡◌, ◌+◌, ◌∷◌, length, take, slice_get, Some}
use Rattle.transducer_core.specs.Built.{IsBuilt}
use Rattle.transducer_core.specs.declared.node.OutputNode.{OutputNode}
use Rattle.transducer_core.proofs.output_words.machine_of.Given as goal

abbrev pub invariant-loop-place : goal.invariant-loop-place
invariant-loop-place l = (l.machine.states ≡ length l.nodes + 1) × (l.machine.registers ≡ 0) × ((n : OutputNode) → slice_get l.nodes l.first ≡ Some n → IsBuilt l.machine (n ∷ take l.place l.nodes))
