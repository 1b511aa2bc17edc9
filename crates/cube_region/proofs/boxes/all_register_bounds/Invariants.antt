use Rattle.std.proofs.Common.{◌≡◌, map, take}
use Rattle.cube_region.specs.Bounding.{register_bounds}
use Rattle.cube_region.proofs.boxes.all_register_bounds.Given as goal

abbrev pub invariant-loop-side : goal.invariant-loop-side
invariant-loop-side l = l.all ≡ map register_bounds (take l.side-index l.given)
