-- The variables and definitions of what was met at places.
use Rattle.std.specs.Prelude.{◌≡◌, ℕ, ◌<◌, ◌^◌, Bool, List, map, length, get_or, Option, Result, Ok, Err}
use Rattle.std.specs.List.{range_with_len}
use Rattle.straight_line.specs.Filling.{ArePartsBelow, variable_from}
use Rattle.flat_cubes.specs.Flattening.{identified}
use Rattle.straight_line.specs.Leading.{AreDefinitionsBelow, ArePairsBelow, definition_by, ordinal, roots_in}
use Rattle.flat_cubes.specs.Straight.{HaveVariablesBelow}
use Rattle.straight_line.specs.Tracing.{IsStraightened}
use Rattle.flat_cubes.specs.declared.definition.By.{By}
use Rattle.flat_cubes.specs.declared.definition.Definition.{Definition}
use Rattle.flat_cubes.specs.declared.fault.FlatFault.{FlatFault}
use Rattle.flat_cubes.specs.declared.variable.Own.{Own}
use Rattle.straight_line.specs.declared.wording.NumberedDefinitions.{NumberedDefinitions}

-- all places are below n
pub record ArePlacesBelow (n : ℕ) (parts : List (ℕ × (Own × Bool))) (definitions : List (ℕ × By)) (equalities : List (ℕ × ℕ)) : Type 0 where
  pub parts_in : ArePartsBelow n parts
  pub definitions_in : AreDefinitionsBelow n definitions
  pub equalities_in : ArePairsBelow n equalities

-- the least place of each
abbrev pub least_of : ℕ → List (ℕ × ℕ) → List ℕ
least_of n es = identified es (range_with_len 0 n)

-- the definitions of the variables
abbrev pub definitions_by : ℕ → List (ℕ × ℕ) → List (ℕ × By) → List Definition
definitions_by n es ds = map (definition_by (ordinal n (least_of n es))) ds

-- each place has its variable, and the variables are those of the roots, with their definitions in order
pub record IsWording (names : List (Option (List ℕ))) (parts : List (ℕ × (Own × Bool))) (definitions : List (ℕ × By)) (equalities : List (ℕ × ℕ)) (w : NumberedDefinitions) : Type 0 where
  pub numbers : (i : ℕ) → i < length names → get_or w.of.items i 0 ≡ ordinal (length names) (least_of (length names) equalities) i
  pub count : length w.of.items ≡ length names
  pub variables : w.variables ≡ map (variable_from names parts (least_of (length names) equalities)) (roots_in (length names) (least_of (length names) equalities))
  pub few : length w.variables < 2 ^ 32
  pub within : HaveVariablesBelow (length w.variables) (definitions_by (length names) equalities definitions)
  pub straight : IsStraightened (definitions_by (length names) equalities definitions) (Ok w.definitions)

abbrev pub AreWords : List (Option (List ℕ)) → List (ℕ × (Own × Bool)) → List (ℕ × By) → List (ℕ × ℕ) → Result NumberedDefinitions FlatFault → Type 0
AreWords names parts definitions equalities (Ok w) = IsWording names parts definitions equalities w
AreWords names parts definitions equalities (Err e) = IsStraightened (definitions_by (length names) equalities definitions) (Err e)
