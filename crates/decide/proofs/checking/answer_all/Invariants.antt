use Rattle.std.proofs.Common.{length}
use Rattle.std.specs.List.{AllByRecursion}
use Rattle.decide.specs.Jobs.{IsAskedCube, IsUnderWay}
use Rattle.decide.proofs.checking.answer_all.Given as goal

abbrev pub invariant-loop-tally : goal.invariant-loop-tally
invariant-loop-tally g l = IsUnderWay l.shared.terms.now l.fn.cubes l.cubes l.tally × AllByRecursion (IsAskedCube l.shared.terms.now) l.cubes

abbrev pub decreases-loop-tally : goal.decreases-loop-tally
decreases-loop-tally g l = length l.cubes
