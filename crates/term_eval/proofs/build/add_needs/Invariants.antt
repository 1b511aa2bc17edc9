use Rattle.std.proofs.Common.{length}
use Rattle.term_eval.proofs.Builds.{InterSplit}
use Rattle.term_eval.proofs.build.add_needs.Given as goal

abbrev pub decreases-loop-r : goal.decreases-loop-r
decreases-loop-r l = length l.more

abbrev pub invariant-loop-r : goal.invariant-loop-r
invariant-loop-r l = InterSplit l.initial.parts l.initial.more l.more l.parts
