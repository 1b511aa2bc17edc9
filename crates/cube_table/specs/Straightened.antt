-- The flat form of a cube with its numbers.
use Rattle.std.specs.Prelude.{List, Result, Ok, Err}
use Rattle.literal_forms.specs.declared.literal.Literal.{Literal}
use Rattle.flat_cubes.specs.Flattening.{IsFlattened, IsFlattening}
use Rattle.cube_bounds.specs.Measuring.{AreNumbersOf}
use Rattle.flat_cubes.specs.declared.fault.FlatFault.{FlatFault}
use Rattle.cube_table.specs.declared.straight.Straight.{Straight}

-- the flattening of the literals and its numbers, or the first thing for which they aren't straight
abbrev pub IsStraightenedCube : List Literal → Result Straight FlatFault → Type 0
IsStraightenedCube ls (Ok s) = IsFlattening ls s.flat × AreNumbersOf s.flat s.numbers
IsStraightenedCube ls (Err f) = IsFlattened ls (Err f)
