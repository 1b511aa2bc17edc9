use Rattle.std.proofs.Common.{◌-◌}
use Rattle.trim_search.proofs.RestLemmas.{IsMarking}
use Rattle.trim_search.proofs.rests.mark_rests.Given as goal

abbrev pub invariant-loop-at : goal.invariant-loop-at
invariant-loop-at l = IsMarking l.machine l.marks l.found l.at

abbrev pub decreases-loop-at : goal.decreases-loop-at
decreases-loop-at l = l.machine.states - l.at
