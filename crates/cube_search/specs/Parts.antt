-- A part of a flat cube, as a cube of its own.
use Rattle.std.specs.Prelude.{◌≡◌, ◌<◌, ◌^◌, ◌⊎◌, Bool, false, List, [], filter, length}
use Rattle.std.specs.List.{AllByRecursion, AllZip, Contains}
use Rattle.flat_cubes.specs.Straight.{AreNamesApart, HasFormed, IsStraight}
use Rattle.flat_cubes.specs.declared.definition.Definition.{Definition}
use Rattle.flat_cubes.specs.declared.flat.Flat.{Flat}
use Rattle.flat_cubes.specs.declared.variable.Variable.{Variable}
use Rattle.cube_search.specs.Conflicts.{is_named}

-- a variable without names, with what is said of this one, or with nothing
pub record IsBareOf (v bare : Variable) : Type 0 where
  pub names : bare.names ≡ []
  pub parts : (bare.parts ≡ []) ⊎ (bare.parts ≡ v.parts)

-- what a flat cube says of some variables: the definitions of those that are marked, and some of the rows. The numbers of variables and integer constants stay, those of registers where there are rows
pub record IsPart (flat : Flat) (marks : List Bool) (part : Flat) : Type 0 where
  pub variables : AllZip IsBareOf flat.variables part.variables
  pub definitions : part.definitions ≡ filter (λ (d : Definition). is_named marks d.variable) flat.definitions
  pub rows : AllByRecursion (Contains flat.rows) part.rows
  pub registers : (part.registers ≡ flat.registers) ⊎ ((part.registers ≡ []) × (part.rows ≡ []))
  pub bare : part.rows ≡ [] → part.registers ≡ []
  pub integers : part.integers ≡ flat.integers
  pub truths : part.truths ≡ []
  pub broken : part.broken ≡ flat.broken

-- a cube that may be searched
pub record IsPartCube (flat : Flat) : Type 0 where
  pub straight : IsStraight flat
  pub formed : HasFormed flat
  pub apart : AreNamesApart flat
  pub few : length flat.variables < 2 ^ 32
  pub whole : flat.broken ≡ false
