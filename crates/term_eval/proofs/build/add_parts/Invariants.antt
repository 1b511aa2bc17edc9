use Rattle.std.proofs.Common.{length}
use Rattle.term_eval.proofs.Builds.{UnionSplit}
use Rattle.term_eval.proofs.build.add_parts.Given as goal

abbrev pub decreases-loop-r : goal.decreases-loop-r
decreases-loop-r l = length l.more

abbrev pub invariant-loop-r : goal.invariant-loop-r
invariant-loop-r l = UnionSplit l.initial.parts l.initial.more l.more l.parts
