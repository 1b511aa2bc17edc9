use Rattle.std.proofs.Common.{◌≡◌, ◌++◌, take, map}
use Rattle.search_hits.specs.Boxes.{point_side}
use Rattle.box_layers.proofs.layers.sides_at.Given as goal

abbrev pub invariant-loop-total : goal.invariant-loop-total
invariant-loop-total l = l.sides ≡ l.integers ++ map point_side (take l.total-index l.totals)
