use Rattle.backward.proofs.FirstLemmas.{AreBegun}
use Rattle.backward.proofs.first_family.first_state.Given as goal

abbrev pub invariant-loop-v : goal.invariant-loop-v
invariant-loop-v l = AreBegun l.flat l.v l.machines
