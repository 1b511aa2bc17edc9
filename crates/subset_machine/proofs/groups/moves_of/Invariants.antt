use Rattle.std.proofs.Common.{length}
use Rattle.subset_machine.proofs.GroupLemmas.{Popped}
use Rattle.subset_machine.proofs.groups.moves_of.Given as goal

abbrev pub invariant-loop-to : goal.invariant-loop-to
invariant-loop-to l = Popped l.initial.groups.entries l.groups.entries l.moves

abbrev pub decreases-loop-to : goal.decreases-loop-to
decreases-loop-to l = length l.groups.entries
