-- What the answer for one cube of some assertions is, and what the answers for all come to.
use Rattle.std.specs.Prelude.{◌≡◌, ◌≢◌, ℕ, ◌*◌, ◌≤◌, false, List, [], ◌++◌, length, None, Some, slice_get, Result, Ok, Err, ◌⊎◌, ⊤}
use Rattle.std.specs.List.{AllByRecursion, AllZip}
use Rattle.std.specs.declared.alloc.AllocError.{AllocError}
use Rattle.sv_terms.specs.Meaning.{Named}
use Rattle.sv_terms.specs.Sorting.{kind}
use Rattle.sv_terms.specs.Truth.{AreValued, clear_of, opaque_of}
use Rattle.sv_terms.specs.declared.term.Term.{Term}
use Rattle.sv_terms.specs.declared.value.Value.{Value}
use Rattle.assertion_parts.specs.Constants.{AreValuesOf, ConstantsHaveOneSort}
use Rattle.assertion_parts.specs.Filling.{default, value_of}
use Rattle.bool_cubes.specs.Cubes.{cubes_of}
use Rattle.bool_cubes.specs.Laws.{IsFittingCube, IsValuedCube}
use Rattle.literal_forms.specs.Shapes.{seen}
use Rattle.literal_forms.specs.declared.literal.Literal.{Literal}
use Rattle.literal_forms.specs.declared.literal.Cube.{Cube}
use Rattle.flat_cubes.specs.Flattening.{IsFlattening}
use Rattle.straight_line.specs.Laws.{IsSpelled}
use Rattle.flat_cubes.specs.declared.fault.FlatFault.{FlatFault}
use Rattle.flat_cubes.specs.declared.fault.FlatFault.TheVariants as fault
use Rattle.flat_cubes.specs.declared.flat.Flat.{Flat}
use Rattle.cube_search.specs.Answers.{IsDecidedCube, IsModelOf, is_name_in}
use Rattle.cube_search.specs.declared.answer.CubeAnswer.{CubeAnswer}
use Rattle.cube_search.specs.declared.answer.CubeAnswer.TheVariants as answer
use Rattle.cube_search.specs.declared.reason.OpenReason.TheVariants.{Fragment, Wide}
use Rattle.cube_search.specs.declared.reason.Shown.TheVariants.{Outside, Twice, Cycle}
use Rattle.decide.specs.Causes.{IsCause}
use Rattle.decide.specs.Completeness.{MustDecideCube}
use Rattle.decide.specs.CubeValues.{AreTrueAtCube, CubeHasNoValues}
use Rattle.decide.specs.Folds.{found, fold}
use Rattle.decide.specs.Tallies.{IsTallyOf, batch}
use Rattle.decide.specs.declared.tally.CubeTally.{CubeTally}
use Rattle.decide.specs.declared.verdict.Open.TheVariants.{TooManyCubes, PastForm, Cubes}
use Rattle.decide.specs.declared.verdict.Verdict.{Verdict}
use Rattle.decide.specs.declared.verdict.Verdict.TheVariants.{Sat, Unsat, Unknown}

-- a cube of assertions that may be asked: no step of its literals leaves 128 bits, their words are words and their transducers formed, and values of the assertions' constants, of which some are, are values of its own
pub record IsAskedCube (terms : List Term) (cube : Cube) : Type 0 where
  pub fits : IsFittingCube cube
  pub spelled : AllByRecursion (λ (l : Literal). IsSpelled (seen l.atom)) cube.literals
  pub valued : (values : Named) → AreValued values (clear_of terms) → IsValuedCube values cube
  pub one_sort : ConstantsHaveOneSort (clear_of terms)

-- a name that isn't one of the flat cube has, if a value, the default of its sort: nothing depends on it
abbrev pub HaveDefaultsBeside : Flat → Named → Type 0
HaveDefaultsBeside flat values = (name : List ℕ) (v : Value) → is_name_in flat name ≡ false → value_of values name ≡ Some v → v ≡ default (kind v)

-- the values extend to words and numbers that satisfy the flat cube, within its reach; beside it they are defaults
pub record IsModelOfFlat (cube : Cube) (values : Named) : Type 0 where
  pub flat : Flat
  pub flattening : IsFlattening cube.literals flat
  pub model : IsModelOf flat values
  pub defaults : HaveDefaultsBeside flat values

-- such values of some cube of the assertions without opaque parts
abbrev pub IsModelOfSomeCube : List Term → Named → Type 0
IsModelOfSomeCube terms values = (k : ℕ) × (cube : Cube) × (slice_get (cubes_of (clear_of terms)) k ≡ Some cube) × IsModelOfFlat cube values

-- values that make the cube true, one for each constant of the assertions without opaque parts and for no other name
pub record IsSatOf (terms : List Term) (cube : Cube) (values : Named) : Type 0 where
  pub holds : AreTrueAtCube values cube
  pub just : AreValuesOf values (clear_of terms)
  pub within : IsModelOfFlat cube values

-- such values; there are none; or a reason that holds of the cube
abbrev pub IsRightAnswer : List Term → Cube → CubeAnswer → Type 0
IsRightAnswer terms cube (answer.Sat values) = IsSatOf terms cube values
IsRightAnswer terms cube (answer.Unsat r) = CubeHasNoValues cube
IsRightAnswer terms cube (answer.Open reason) = IsCause terms cube reason

-- and it decides, where that is owed
pub record IsOutcome (terms : List Term) (cube : Cube) (answer : CubeAnswer) : Type 0 where
  pub right : IsRightAnswer terms cube answer
  pub decided : MustDecideCube cube → IsDecidedCube answer

-- the answer where a cube has no flat cube
abbrev pub refused_answer : FlatFault → Result CubeAnswer AllocError
refused_answer (fault.Outside l) = Ok (answer.Open (Fragment (Outside l)))
refused_answer (fault.Twice v) = Ok (answer.Open (Fragment (Twice v)))
refused_answer (fault.Cycle vs) = Ok (answer.Open (Fragment (Cycle vs)))
refused_answer (fault.Wide n) = Ok (answer.Open (Wide n))
refused_answer (fault.Memory e) = Err e

-- whole batches without a model that ends the search
pub record AreWhole (opaque : List Term) (answers : List CubeAnswer) : Type 0 where
  pub batches : ℕ
  pub whole : length answers ≡ batches * batch
  pub goes_on : found opaque answers ≡ None

-- the answers of whole batches without a model that ends the search, and then those of one batch more, which is shorter only where no cubes are left; cubes are left only where it has such a model
pub record EndsWithBatch (opaque : List Term) (left : List Cube) (answers : List CubeAnswer) : Type 0 where
  pub before : List CubeAnswer
  pub last : List CubeAnswer
  pub both : answers ≡ before ++ last
  pub earlier : AreWhole opaque before
  pub size : (length last ≡ batch) ⊎ ((left ≡ []) × (length last ≤ batch))
  pub stops : (left ≡ []) ⊎ (found opaque answers ≢ None)

-- the verdict is the fold of answers for the first cubes, one for each in their order, up to the end of the first batch that holds a model which ends the search
pub record IsFoldOf (terms : List Term) (cubes : List Cube) (verdict : Verdict) : Type 0 where
  pub done : List Cube
  pub left : List Cube
  pub answers : List CubeAnswer
  pub parts : cubes ≡ done ++ left
  pub outcomes : AllZip (IsOutcome terms) done answers
  pub folded : verdict ≡ fold (opaque_of terms) answers
  pub ended : EndsWithBatch (opaque_of terms) left answers

-- the state between two batches
pub record IsUnderWay (terms : List Term) (cubes left : List Cube) (tally : CubeTally) : Type 0 where
  pub done : List Cube
  pub answers : List CubeAnswer
  pub parts : cubes ≡ done ++ left
  pub outcomes : AllZip (IsOutcome terms) done answers
  pub tallied : IsTallyOf (opaque_of terms) answers tally
  pub whole : AreWhole (opaque_of terms) answers

-- so it is, unless there are too many cubes or a form leaves 128 bits
abbrev pub IsFolded : List Term → Verdict → Type 0
IsFolded terms (Sat values) = IsFoldOf terms (cubes_of (clear_of terms)) (Sat values)
IsFolded terms (Unsat r) = IsFoldOf terms (cubes_of (clear_of terms)) (Unsat r)
IsFolded terms (Unknown (TooManyCubes n)) = ⊤
IsFolded terms (Unknown (PastForm left right)) = ⊤
IsFolded terms (Unknown (Cubes list)) = IsFoldOf terms (cubes_of (clear_of terms)) (Unknown (Cubes list))
