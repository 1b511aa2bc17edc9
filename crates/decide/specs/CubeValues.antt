-- Which values make a cube true.
use Rattle.sv_terms.specs.Meaning.{Named}
use Rattle.sv_terms.specs.Truth.{AreWorded}
use Rattle.bool_cubes.specs.Cubes.{CubeTrue}
use Rattle.bool_cubes.specs.Laws.{IsValuedCube}
use Rattle.literal_forms.specs.declared.literal.Cube.{Cube}

-- truth values, numbers and words, each of its constant's sort, that make each literal true
pub record AreTrueAtCube (values : Named) (cube : Cube) : Type 0 where
  pub worded : AreWorded values
  pub valued : IsValuedCube values cube
  pub holds : CubeTrue values cube

-- there are such values
abbrev pub CubeHasValues : Cube → Type 0
CubeHasValues cube = (values : Named) × AreTrueAtCube values cube

-- there are none
abbrev pub CubeHasNoValues : Cube → Type 0
CubeHasNoValues cube = (values : Named) → AreTrueAtCube values cube → ⊥
