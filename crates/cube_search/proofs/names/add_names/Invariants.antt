use Rattle.cube_search.proofs.NameLemmas.{AreJoinedUpTo}
use Rattle.cube_search.proofs.names.add_names.Given as goal

abbrev pub invariant-loop-v : goal.invariant-loop-v
invariant-loop-v l = AreJoinedUpTo l.fn.names l.others l.v l.names
