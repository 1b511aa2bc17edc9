-- What a draft must be for it to be finished.
use Rattle.std.specs.Prelude.{ℕ, ◌<◌, length}
use Rattle.std.specs.List.{AllByRecursion}
use Rattle.flat_cubes.specs.Using.{used}
use Rattle.straight_line.specs.Keeping.{AreQuantitiesBelow}
use Rattle.straight_line.specs.Wording.{ArePlacesBelow}
use Rattle.flat_cubes.specs.declared.definition.By.{By}
use Rattle.flat_cubes.specs.declared.draft.FlatDraft.{FlatDraft as Held}

-- each definition uses at least one place
abbrev pub UsesSome : ℕ × By → Type 0
UsesSome e = 0 < length (used e.1)

-- all places are there, and no concatenation is of no pieces
pub record IsReady (held : Held) : Type 0 where
  pub met : ArePlacesBelow (length held.names) held.parts held.definitions held.equalities
  pub quantities : AreQuantitiesBelow (length held.names) held.quantities
  pub some : AllByRecursion UsesSome held.definitions
