-- What holds of the levels and the kept verdict of each session. Nothing public rests on it.
use Rattle.std.specs.Prelude.{◌≡◌, IsTrue, IsSome, All, ⊤, List, [], ◌∷◌, ◌++◌, Option, Some, None, Ok}
use Rattle.std.specs.List.{AllByRecursion}
use Rattle.assert_stack.specs.Levels.{Level, Symbol, symbols_of, live}
use Rattle.sexpr_reader.specs.declared.sexpr.Sexpr.{Sexpr}
use Rattle.smt_names.specs.Form.{seen}
use Rattle.sort_check.specs.Checking.{asked_term, IsAskable}
use Rattle.sort_check.specs.WellFormed.{is_well_formed, AreGiven, IsTermOf, IsAdded}
use Rattle.sort_check.specs.declared.commands.Command.{Command}
use Rattle.sort_check.specs.declared.commands.Command.TheVariants as command
use Rattle.sv_terms.specs.Meaning.{Named}
use Rattle.sv_terms.specs.Sorting.{is_valued, sort_of}
use Rattle.sv_terms.specs.Truth.{HasNoValues, clear_of}
use Rattle.sv_terms.specs.declared.entry.Body.TheVariants as body
use Rattle.sv_terms.specs.declared.entry.Entry.TheVariants as entry
use Rattle.sv_terms.specs.declared.sort.Sort.TheVariants as sort
use Rattle.sv_terms.specs.declared.term.Term.{Term}
use Rattle.smt_session.specs.declared.session.LastVerdict.{LastVerdict}
use Rattle.smt_session.specs.declared.session.LastVerdict.TheVariants as kept

-- from each level outward the names are well formed, and each assertion is a term of sort Bool over them
abbrev pub AreSound : List Level → Type 0
AreSound [] = ⊤
AreSound (level ∷ outer) = IsTrue (is_well_formed (symbols_of (level ∷ outer))) × AllByRecursion (IsTermOf (symbols_of (level ∷ outer)) sort.Bool) level.1 × AreSound outer

-- the assumptions are terms of sort Bool, and the live assertions have no values with them
pub record AreRefuted (levels : List Level) (assumed : List Term) : Type 0 where
  pub terms : AllByRecursion (IsTermOf (symbols_of levels) sort.Bool) assumed
  pub refuted : HasNoValues (clear_of (live levels ++ assumed))

-- a kept model has a value for each declared constant
abbrev pub IsKeptOf : List Level → Option LastVerdict → Type 0
IsKeptOf levels (Some (kept.Sat values)) = AreGiven values (symbols_of levels)
IsKeptOf levels (Some (kept.Unsat assumed)) = AreRefuted levels assumed
IsKeptOf levels (Some (kept.Unknown c)) = ⊤
IsKeptOf levels None = ⊤

-- what is known of a command under these levels
abbrev pub FitsLevels : List Level → Command → Type 0
FitsLevels levels (command.Declare name s) = IsAdded (symbols_of levels) name (entry.Constant s)
FitsLevels levels (command.Define name e) = IsAdded (symbols_of levels) name e
FitsLevels levels (command.Assert term) = IsTermOf (symbols_of levels) sort.Bool term
FitsLevels levels (command.AssertNamed name term) = IsTermOf (symbols_of levels) sort.Bool term × IsAdded (symbols_of levels) name (entry.Macro [] (body.Term term))
FitsLevels levels (command.CheckAssuming assumed) = AllByRecursion (IsTermOf (symbols_of levels) sort.Bool) assumed
FitsLevels levels (command.GetValue items) = All (IsAskable (symbols_of levels)) items
FitsLevels levels _ = ⊤

-- a term that may be evaluated
pub record IsEvaluable (values : Named) (term : Term) : Type 0 where
  pub sorted : IsSome (sort_of term)
  pub valued : IsTrue (is_valued values term)

-- an s-expression of such a term under these declarations
abbrev pub IsAskedAt : List Symbol → Named → Sexpr → Type 0
IsAskedAt symbols values item = (t : Term) × (asked_term symbols (seen item) ≡ Ok t) × IsEvaluable values t
