use Rattle.std.specs.List.{AllByRecursion, Contains}
use Rattle.decide.proofs.crooked.kept_literals.Given as goal

abbrev pub invariant-loop-i : goal.invariant-loop-i
invariant-loop-i l = AllByRecursion (Contains l.literals) l.kept
