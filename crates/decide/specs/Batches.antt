-- The jobs of a batch.
use Rattle.std.specs.Prelude.{◌≡◌, IfOk, List, [], ◌∷◌, Result}
use Rattle.std.specs.List.{AllZip}
use Rattle.std.specs.declared.alloc.AllocError.{AllocError}
use Rattle.sv_terms.specs.declared.term.Term.{Term}
use Rattle.literal_forms.specs.declared.literal.Cube.{Cube}
use Rattle.cube_search.specs.declared.answer.CubeAnswer.{CubeAnswer}
use Rattle.decide.specs.Jobs.{IsOutcome}

-- a job for each of the first cubes of the old list, in order; the others are left. A job is seen as its assertions and its cube
abbrev pub AreJobsOf : List Term → List (List Term × Cube) → List Cube → List Cube → Type 0
AreJobsOf terms [] old new = old ≡ new
AreJobsOf terms (job ∷ jobs) [] new = ⊥
AreJobsOf terms (job ∷ jobs) (cube ∷ old) new = (job.0 ≡ terms) × (job.1 ≡ cube) × AreJobsOf terms jobs old new

-- what a job may answer
abbrev pub Yields : List Term × Cube → Result CubeAnswer AllocError → Type 0
Yields job outcome = IfOk outcome (IsOutcome job.0 job.1)

-- an answer of each job, in their order
abbrev pub AreAnswersOf : List (List Term × Cube) → List (Result CubeAnswer AllocError) → Type 0
AreAnswersOf jobs outcomes = AllZip Yields jobs outcomes
