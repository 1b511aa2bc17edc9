use Rattle.cube_search.proofs.NameLemmas.{AreNamesUpTo}
use Rattle.cube_search.proofs.names.names_of.Given as goal

abbrev pub invariant-loop-i : goal.invariant-loop-i
invariant-loop-i l = AreNamesUpTo l.variables l.i l.names
