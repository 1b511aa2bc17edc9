use Rattle.std.specs.Prelude.{take}
use Rattle.std.specs.List.{AllZip}
use Rattle.cube_search.specs.Parts.{IsBareOf}
use Rattle.cube_search.proofs.part_copy.part_variables.Given as goal

abbrev pub invariant-loop-place : goal.invariant-loop-place
invariant-loop-place l = AllZip IsBareOf (take l.place l.variables) l.bare
