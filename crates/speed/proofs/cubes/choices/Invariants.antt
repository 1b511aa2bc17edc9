use Rattle.std.specs.List.{AllByRecursion}
use Rattle.bool_cubes.specs.Laws.{IsClearBool}
use Rattle.speed.proofs.cubes.choices.Given as goal

abbrev pub invariant-loop-number : goal.invariant-loop-number
invariant-loop-number l = AllByRecursion IsClearBool l.terms
