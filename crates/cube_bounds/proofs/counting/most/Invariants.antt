use Rattle.std.proofs.Common.{◌≡◌, drop}
use Rattle.cube_bounds.specs.Bounds.{greatest}
use Rattle.cube_bounds.proofs.counting.most.Given as goal

abbrev pub invariant-loop-i : goal.invariant-loop-i
invariant-loop-i l = l.most ≡ greatest 1 (drop l.i l.numbers)
