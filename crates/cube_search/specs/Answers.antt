-- What is answered for one flat cube.
use Rattle.std.specs.Prelude.{◌≡◌, ℕ, ℤ, pos, ◌≤ℤ◌, Bool, false, nat_eq, List, None, ⊤}
use Rattle.std.specs.List.{list_any}
use Rattle.std.specs.Map.{lookup}
use Rattle.std.specs.Cmp.Lexicographic.{pointwise}
use Rattle.sv_terms.specs.Language.{Word}
use Rattle.sv_terms.specs.Meaning.{Named}
use Rattle.sv_terms.specs.Truth.{AreWorded}
use Rattle.cube_bounds.specs.Growth.{reach}
use Rattle.cube_bounds.specs.NumberLaws.{source_length}
use Rattle.flat_cubes.specs.Satisfying.{Satisfies, AreModelValues}
use Rattle.flat_cubes.specs.Straight.{all_names}
use Rattle.flat_cubes.specs.declared.flat.Flat.{Flat}
use Rattle.cube_search.specs.declared.answer.CubeAnswer.{CubeAnswer}
use Rattle.cube_search.specs.declared.answer.CubeAnswer.TheVariants as answer
use Rattle.cube_search.specs.Causes.{EachSolution, IsCauseOf}

-- values that extend to words and numbers that satisfy the cube; its source words have together at most so many characters as are within reach
pub record IsModelOf (flat : Flat) (values : Named) : Type 0 where
  pub words : List Word
  pub numbers : List ℤ
  pub worded : AreWorded values
  pub of : AreModelValues flat words numbers values
  pub satisfies : Satisfies flat words numbers
  pub within : pos (source_length flat words) ≤ℤ reach flat

-- whether the name is one of the flat cube: of a variable, of an integer or of a truth
abbrev pub is_name_in : Flat → List ℕ → Bool
is_name_in flat name = list_any (pointwise nat_eq name) (all_names flat)

-- only names of the flat cube have values
abbrev pub AreOnlyIn : Flat → Named → Type 0
AreOnlyIn flat values = (name : List ℕ) → is_name_in flat name ≡ false → lookup (pointwise nat_eq name) values ≡ None

-- a model with values for names of the cube alone; nothing satisfies the cube; or a reason that holds of it
abbrev pub IsCubeAnswer : Flat → CubeAnswer → Type 0
IsCubeAnswer flat (answer.Sat model) = IsModelOf flat model × AreOnlyIn flat model
IsCubeAnswer flat (answer.Unsat refutation) = EachSolution flat (λ ws ints. ⊥)
IsCubeAnswer flat (answer.Open reason) = IsCauseOf flat reason

abbrev pub IsDecidedCube : CubeAnswer → Type 0
IsDecidedCube (answer.Sat model) = ⊤
IsDecidedCube (answer.Unsat refutation) = ⊤
IsDecidedCube (answer.Open reason) = ⊥
