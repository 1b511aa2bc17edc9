use Rattle.std.specs.Prelude.{◌≡◌, take}
use Rattle.cube_search.proofs.part_copy.copy_parts.Given as goal

abbrev pub invariant-loop-part : goal.invariant-loop-part
invariant-loop-part l = l.all ≡ take l.part-index l.parts
