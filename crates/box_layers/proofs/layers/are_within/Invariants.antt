use Rattle.std.proofs.Common.{pos, map, take}
use Rattle.search_hits.specs.Regions.{AreWithin, whole_side}
use Rattle.box_layers.proofs.layers.are_within.Given as goal

abbrev pub invariant-loop-register : goal.invariant-loop-register
invariant-loop-register l = AreWithin (map whole_side (take l.register l.sides)) (map pos (take l.register l.totals))
