-- Cubes that need no work, by what they share.
use Rattle.std.specs.Prelude.{◌≡◌, ℕ, zero, suc, ◌+◌, ◌*◌, ◌%◌, ◌≤◌, Bool, List, [], ◌∷◌, length, drop, take, nat_eq, if◌then◌else◌}
use Rattle.std.specs.List.{AllByRecursion}
use Rattle.sv_terms.specs.CutOff.{cut_off}
use Rattle.sv_terms.specs.declared.term.Term.{Term}
use Rattle.bool_cubes.specs.Cubes.{cubes_of}
use Rattle.bool_cubes.specs.Refusing.{count_of, most_cubes}
use Rattle.literal_forms.specs.declared.literal.Cube.{Cube}
use Rattle.cube_search.specs.declared.answer.CubeAnswer.{CubeAnswer}
use Rattle.cube_search.specs.declared.answer.CubeAnswer.TheVariants as answer
use Rattle.decide.specs.CubeValues.{CubeHasNoValues}
use Rattle.decide.specs.Folds.{refutation}
use Rattle.decide.specs.Tallies.{IsTallyWith, batch}
use Rattle.decide.specs.declared.tally.CubeTally.{CubeTally}

-- whether a term leaves no choice
abbrev pub is_single : Term → Bool
is_single t = nat_eq (cut_off (count_of (t ∷ []))) 1

-- the first terms, and those of the others that leave no choice
abbrev pub shared_of : ℕ → List Term → List Term
shared_of first [] = []
shared_of zero (t ∷ ts) = if is_single t then t ∷ shared_of zero ts else shared_of zero ts
shared_of (suc first) (t ∷ ts) = t ∷ shared_of first ts

-- the cubes of one choice for so many first terms aren't too many, and the block of the first one behind so many goes on for a whole batch
abbrev pub GoesOn : List Term → ℕ → ℕ → Type 0
GoesOn terms given first = (count_of (drop first terms) ≤ most_cubes) × (given % count_of (drop first terms) + batch ≤ count_of (drop first terms))

-- so many of the cubes behind those that were given have no values: whole batches of them
pub record AreKnown (terms : List Term) (given cubes : ℕ) : Type 0 where
  pub batches : ℕ
  pub whole : cubes ≡ batches * batch
  pub enough : cubes ≤ length (drop given (cubes_of terms))
  pub none : AllByRecursion CubeHasNoValues (take cubes (drop given (cubes_of terms)))

-- the answers for so many cubes that need no work: no leaf of them was closed
abbrev pub passed : ℕ → List CubeAnswer
passed zero = []
passed (suc n) = answer.Unsat (refutation 0 0 0) ∷ passed n

-- the next cubes, so many, are passed over
pub record PassesCubes (terms : List Term) (old new : List Cube) (before after : CubeTally) : Type 0 where
  pub cubes : ℕ
  pub known : AreKnown terms before.count cubes
  pub left : new ≡ drop cubes old
  pub tallied : IsTallyWith (passed cubes) before after
