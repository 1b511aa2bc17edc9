use Rattle.std.proofs.Common.{◌≡◌, map, take}
use Rattle.cube_region.specs.Bounding.{integer_bounds}
use Rattle.cube_region.proofs.boxes.all_integer_bounds.Given as goal

abbrev pub invariant-loop-side : goal.invariant-loop-side
invariant-loop-side l = l.all ≡ map integer_bounds (take l.side-index l.given)
