use Rattle.std.specs.List.{AllByRecursion, Contains}
use Rattle.cube_search.proofs.part_copy.part_rows.Given as goal

abbrev pub invariant-loop-i : goal.invariant-loop-i
invariant-loop-i l = AllByRecursion (Contains l.flat.rows) l.chosen
