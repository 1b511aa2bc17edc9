-- What keeps the declared names such that every term that is read has a sort, and a value for each of its constants.
use Rattle.std.specs.Prelude.{◌≡◌, IsTrue, All, Bool, true, false, not, ◌&&◌, List, [], ◌∷◌, ◌++◌, Option, Some, None, is_some}
use Rattle.std.specs.Map.{lookup}
use Rattle.sv_terms.specs.declared.entry.Body.{Body}
use Rattle.sv_terms.specs.declared.entry.Body.TheVariants as body
use Rattle.sv_terms.specs.declared.entry.Entry.{Entry}
use Rattle.sv_terms.specs.declared.entry.Entry.TheVariants as entry
use Rattle.sv_terms.specs.declared.sort.Sort.{Sort}
use Rattle.sv_terms.specs.declared.sort.Sort.TheVariants as sort
use Rattle.sv_terms.specs.declared.term.Term.{Term}
use Rattle.sv_terms.specs.declared.term.Term.TheOpen.{Term-F}
use Rattle.sv_terms.specs.declared.term.Term.TheFolds.{fold-Term}
use Rattle.sv_terms.specs.Meaning.{Named}
use Rattle.sv_terms.specs.Parts.{every_step}
use Rattle.sv_terms.specs.Sorting.{same_sort, sort_of, is_of}
use Rattle.sv_terms.specs.TransducerSizes.{is_formed, has_formed}
use Rattle.term_weight.specs.Bodies.{body_sort, is_escaped}
use Rattle.term_walk.specs.Meant.{Names}
use Rattle.smt_names.specs.Signature.{Name, same_name}

-- whether each constant of a term is known, by its name and sort
module _ (known : Name → Sort → Bool) where
  abbrev pub constants_step : Term-F Bool → Bool
  constants_step = every_step known (λ t. true)

  abbrev pub constants_are : Term → Bool
  constants_are = fold-Term Bool constants_step

abbrev pub is_constant_of : Sort → Option Entry → Bool
is_constant_of s (Some (entry.Constant t)) = same_sort s t
is_constant_of s _ = false

-- whether a constant is declared with this sort
abbrev pub is_declared : Names → Name → Sort → Bool
is_declared symbols n s = is_constant_of s (lookup (same_name n) symbols)

-- whether each constant of a term is declared with its sort
abbrev pub constants_known : Names → Term → Bool
constants_known symbols = constants_are (is_declared symbols)

-- a term of this sort over the declared constants, whose transducers are formed
pub record IsTermOf (symbols : Names) (s : Sort) (t : Term) : Type 0 where
  pub sorted : sort_of t ≡ Some s
  pub known : IsTrue (constants_known symbols t)
  pub formed : IsTrue (has_formed t)

-- the same, where the sort is any one of which values are written
abbrev pub IsOfWrittenSort : Names → Term → Type 0
IsOfWrittenSort symbols t = (s : Sort) × IsTermOf symbols s t × (same_sort sort.RegLan s ≡ false)

-- a parameter hides a constant of its name
abbrev pub hidden_by : Option Sort → Bool → Sort → Bool
hidden_by (Some t) declared s = same_sort s t
hidden_by None declared s = declared

-- whether a constant in the body of a macro is a parameter or a declared constant, with this sort
abbrev pub is_bound : List (Name × Sort) → Names → Name → Sort → Bool
is_bound parameters symbols n s = hidden_by (lookup (same_name n) parameters) (is_declared symbols n s) s

abbrev pub is_sort : Sort → Option Sort → Bool
is_sort s (Some t) = same_sort s t
is_sort s None = false

-- the body of a macro with these parameters, declared behind these names
abbrev pub is_body : List (Name × Sort) → Names → Body → Bool
is_body parameters before (body.Term t) = is_sort (body_sort (body.Term t)) (sort_of t) && has_formed t && constants_are (is_bound parameters before) t
is_body parameters before (body.Language r) = true

-- what may be declared behind these names
abbrev pub is_entry : Names → Entry → Bool
is_entry before (entry.Constant s) = not (same_sort sort.RegLan s)
is_entry before (entry.Macro parameters b) = is_body parameters before b
is_entry before (entry.Machine t) = is_formed t

-- a name that may be declared behind these
abbrev pub is_new : Names → Name → Bool
is_new before n = not (is_escaped n) && not (is_some (lookup (same_name n) before))

-- each name is new behind those before it, and stands for what may be declared behind them
abbrev pub follow : Names → Names → Bool
follow before [] = true
follow before (e ∷ es) = is_new before e.0 && is_entry before e.1 && follow (before ++ e ∷ []) es

-- names declared one after another: constants that have values, formed transducers, and macros whose bodies have sorts and constants that are parameters or were declared before
abbrev pub is_well_formed : Names → Bool
is_well_formed symbols = follow [] symbols

-- names with one more behind them, which is new
pub record IsAdded (symbols : Names) (n : Name) (e : Entry) : Type 0 where
  pub new : lookup (same_name n) symbols ≡ None
  pub well_formed : IsTrue (is_well_formed (symbols ++ (n, e) ∷ []))

-- a constant has a value of its sort
abbrev pub is_given : Named → Name × Entry → Bool
is_given values (n, entry.Constant s) = is_of s (lookup (same_name n) values)
is_given values (n, _) = true

-- each declared constant has a value of its sort
abbrev pub AreGiven : Named → Names → Type 0
AreGiven values symbols = All (λ e. IsTrue (is_given values e)) symbols
