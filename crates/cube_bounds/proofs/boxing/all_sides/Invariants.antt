use Rattle.std.proofs.Common.{◌≡◌, ◌++◌, map, take}
use Rattle.cube_bounds.specs.Sides.{integer_side, register_side}
use Rattle.cube_bounds.proofs.boxing.all_sides.Given as goal

abbrev pub invariant-loop-span : goal.invariant-loop-span
invariant-loop-span l = l.sides ≡ map register_side (take l.span-index l.registers)

abbrev pub invariant-loop-whole : goal.invariant-loop-whole
invariant-loop-whole l = l.sides ≡ l.initial.sides ++ map integer_side (take l.whole-index l.integers)
