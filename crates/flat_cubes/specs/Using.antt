-- Which variables a definition uses, and which are defined.
use Rattle.std.specs.Prelude.{ℕ, [], ◌∷◌, List, nat_eq, Bool}
use Rattle.std.specs.List.{list_any}
use Rattle.flat_cubes.specs.declared.definition.By.{By}
use Rattle.flat_cubes.specs.declared.definition.By.TheVariants as by
use Rattle.flat_cubes.specs.declared.definition.Definition.{Definition}

-- the variables that a definition uses, one for each occurrence
abbrev pub used : By → List ℕ
used (by.Concat vs) = vs
used (by.First p u v) = v ∷ []
used (by.All p u v) = v ∷ []
used (by.Through t v) = v ∷ []

-- whether a variable is defined
abbrev pub is_defined : List Definition → ℕ → Bool
is_defined ds v = list_any (λ d. nat_eq d.variable v) ds
