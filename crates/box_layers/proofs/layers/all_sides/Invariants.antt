use Rattle.std.proofs.Common.{◌≡◌, ◌++◌, take, map}
use Rattle.search_hits.specs.Regions.{whole_side}
use Rattle.box_layers.proofs.layers.all_sides.Given as goal

abbrev pub invariant-loop-low : goal.invariant-loop-low
invariant-loop-low l = l.sides ≡ l.region.integers ++ map whole_side (take l.low-index l.low-items)
