-- The model of a verdict, and what is told of an open one.
use Rattle.std.specs.Prelude.{◌≡◌, false, nat_eq, List, [], ◌∷◌, map, Some, ⊤}
use Rattle.std.specs.Map.{lookup}
use Rattle.std.specs.Cmp.Lexicographic.{pointwise}
use Rattle.smt_names.specs.Signature.{Name}
use Rattle.assert_stack.specs.Levels.{Symbol}
use Rattle.cube_search.specs.declared.reason.OpenReason.{OpenReason}
use Rattle.cube_search.specs.declared.reason.OpenReason.TheVariants as reason
use Rattle.assertion_parts.specs.Constants.{is_mentioned}
use Rattle.assertion_parts.specs.Filling.{default}
use Rattle.decide.specs.Jobs.{IsModelOfSomeCube}
use Rattle.decide.specs.declared.verdict.Open.{Open}
use Rattle.decide.specs.declared.verdict.Open.TheVariants as open_by
use Rattle.decide.specs.declared.verdict.Verdict.{Verdict}
use Rattle.decide.specs.declared.verdict.Verdict.TheVariants as verdict
use Rattle.lia_branch.specs.declared.evidence.Evidence.{Evidence}
use Rattle.lia_branch.specs.declared.evidence.Evidence.TheVariants as evidence
use Rattle.sv_terms.specs.Meaning.{Named}
use Rattle.sv_terms.specs.Sorting.{kind}
use Rattle.sv_terms.specs.declared.entry.Entry.TheVariants.{Constant, Macro, Machine}
use Rattle.sv_terms.specs.declared.sort.Sort.{Sort}
use Rattle.sv_terms.specs.declared.term.Term.{Term}
use Rattle.reply_text.specs.declared.cause.Cause.{Cause}
use Rattle.reply_text.specs.declared.cause.Cause.TheVariants as cause
use Rattle.reply_text.specs.declared.cause.CubeCause.{CubeCause}
use Rattle.reply_text.specs.declared.cause.CubeCause.TheVariants as cube_cause

-- the constants that are declared, in order, with their sorts
abbrev pub constants_of : List Symbol → List (Name × Sort)
constants_of [] = []
constants_of ((name, Constant s) ∷ symbols) = (name, s) ∷ constants_of symbols
constants_of ((name, Macro parameters body) ∷ symbols) = constants_of symbols
constants_of ((name, Machine t) ∷ symbols) = constants_of symbols

-- each with the sort of its value
abbrev pub kinds_of : Named → List (Name × Sort)
kinds_of values = map (λ v. (v.0, kind v.1)) values

-- a value of its sort for each declared constant, in order: a model of the flat cube of some cube of the assertions, in which each constant that isn't one of the flat cube has the default of its sort. So has one that no assertion mentions
pub record IsModelFor (symbols : List Symbol) (live : List Term) (values : Named) : Type 0 where
  pub covers : kinds_of values ≡ constants_of symbols
  pub chosen : IsModelOfSomeCube live values
  pub unmentioned : (name : Name) (s : Sort) → lookup (pointwise nat_eq name) (constants_of symbols) ≡ Some s → is_mentioned name live ≡ false → lookup (pointwise nat_eq name) values ≡ Some (default s)

-- a model is one for the declared constants
abbrev pub IsVerdictFor : List Symbol → List Term → Verdict → Type 0
IsVerdictFor symbols live (verdict.Sat values) = IsModelFor symbols live values
IsVerdictFor symbols live (verdict.Unsat refutation) = ⊤
IsVerdictFor symbols live (verdict.Unknown reason) = ⊤

-- why the solver gave up, in a word
abbrev pub of_evidence : Evidence → CubeCause
of_evidence (evidence.Branches tree) = cube_cause.Branches
of_evidence (evidence.PastRow tree first second unknown column) = cube_cause.NumberRow
of_evidence (evidence.PastSum tree column) = cube_cause.NumberSum

-- why a cube is open, in a word
abbrev pub of_reason : OpenReason → CubeCause
of_reason (reason.Fragment what) = cube_cause.Fragment
of_reason (reason.Wide n) = cube_cause.Wide
of_reason (reason.States n) = cube_cause.States
of_reason (reason.Splits n) = cube_cause.Splits
of_reason (reason.Growth n) = cube_cause.Length
of_reason (reason.Length machines long) = cube_cause.Length
of_reason (reason.Arithmetic machines system e) = of_evidence e

-- what is told of why there is no answer: of the open cubes the least one
abbrev pub cause_of : Open → Cause
cause_of (open_by.TooManyCubes n) = cause.Cubes
cause_of (open_by.PastForm left right) = cause.NumberForm
cause_of (open_by.Cubes []) = cause.Cubes
cause_of (open_by.Cubes ((k, r) ∷ others)) = cause.Cube k (of_reason r)
