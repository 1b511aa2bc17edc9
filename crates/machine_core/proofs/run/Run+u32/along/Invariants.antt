use Rattle.machine_core.proofs.WalkLemmas.{IsFollowed}
use Rattle.machine_core.proofs.run.Run+u32.along.Given as goal

abbrev pub invariant-loop-k : goal.invariant-loop-k
invariant-loop-k l = IsFollowed l.machine.edges l.back l.last l.k l.run

abbrev pub decreases-loop-k : goal.decreases-loop-k
decreases-loop-k l = l.k
