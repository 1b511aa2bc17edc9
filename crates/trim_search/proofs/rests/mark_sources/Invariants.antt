use Rattle.trim_search.proofs.RestLemmas.{IsFollowingBack}
use Rattle.trim_search.proofs.rests.mark_sources.Given as goal

abbrev pub invariant-loop-next : goal.invariant-loop-next
invariant-loop-next l = IsFollowingBack l.edges l.state l.next l.initial.marks l.initial.found l.marks l.found

abbrev pub decreases-loop-next : goal.decreases-loop-next
decreases-loop-next l = l.next
