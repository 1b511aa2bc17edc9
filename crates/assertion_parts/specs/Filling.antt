-- A value for each constant of some assertions, by a model of some of them.
use Rattle.std.specs.Prelude.{◌≡◌, Bool, true, false, ℕ, List, IsTrue, Option, Some, None, nat_eq, if◌then◌else◌, pos, []}
use Rattle.std.specs.List.{list_all}
use Rattle.std.specs.Map.{lookup}
use Rattle.std.specs.Cmp.Lexicographic.{pointwise}
use Rattle.sv_terms.specs.Meaning.{Named}
use Rattle.sv_terms.specs.Sorting.{is_of, is_valued, kind, same_sort}
use Rattle.sv_terms.specs.Truth.{AreWorded}
use Rattle.sv_terms.specs.declared.sort.Sort.{Sort}
use Rattle.sv_terms.specs.declared.sort.Sort.TheVariants as sort
use Rattle.sv_terms.specs.declared.term.Term.{Term}
use Rattle.sv_terms.specs.declared.value.Value.{Value}
use Rattle.sv_terms.specs.declared.value.Value.TheVariants.{Truth, Number, Text}
use Rattle.assertion_parts.specs.Constants.{mentions, is_mentioned, AreValuesOf}

-- the value of a constant on which nothing depends
abbrev pub default : Sort → Value
default sort.Bool = Truth false
default sort.Int = Number (pos 0)
default sort.String = Text []
default sort.RegLan = Text []

-- the value, if it is one of the sort, else the default
abbrev pub or_default : Sort → Option Value → Value
or_default s None = default s
or_default s (Some v) = if same_sort s (kind v) then v else default s

abbrev pub value_of : Named → List ℕ → Option Value
value_of values name = lookup (pointwise nat_eq name) values

-- each value is the one that is given, where that is of its sort, else the default of its sort
abbrev pub AreChosen : Named → Named → Type 0
AreChosen given full = (name : List ℕ) (v : Value) → value_of full name ≡ Some v → v ≡ or_default (kind v) (value_of given name)

-- a value so chosen for each constant of the terms, and for no other name
pub record IsFilledFrom (given : Named) (terms : List Term) (full : Named) : Type 0 where
  pub chosen : AreChosen given full
  pub worded : AreWorded given → AreWorded full
  pub just : AreValuesOf full terms

-- the same on the way, with values that have the sorts of those of a sample
pub record IsFilling (sample given full : Named) : Type 0 where
  pub chosen : AreChosen given full
  pub of_sort : (name : List ℕ) (v : Value) → value_of full name ≡ Some v → is_of (kind v) (value_of sample name) ≡ true
  pub worded : AreWorded given → AreWorded full

-- names for which a test holds get values, and all others stay
pub record Grows (sample given old new : Named) (test : List ℕ → Bool) : Type 0 where
  pub filling : IsFilling sample given new
  pub kept : (name : List ℕ) (v : Value) → value_of old name ≡ Some v → value_of new name ≡ Some v
  pub others : (name : List ℕ) → test name ≡ false → value_of new name ≡ value_of old name

-- a constant has a value of its sort now
abbrev pub FillsOne : Named → List ℕ → Sort → Named → Named → Type 0
FillsOne given name s old new = (sample : Named) → is_of s (value_of sample name) ≡ true → IsFilling sample given old
    → Grows sample given old new (λ other. pointwise nat_eq other name) × IsTrue (is_of s (value_of new name))

-- each constant of a term, and of terms
abbrev pub Fills : Named → Term → Named → Named → Type 0
Fills given t old new = (sample : Named) → IsTrue (is_valued sample t) → IsFilling sample given old
    → Grows sample given old new (λ name. mentions name t) × IsTrue (is_valued new t)

abbrev pub FillsAll : Named → List Term → Named → Named → Type 0
FillsAll given ts old new = (sample : Named) → IsTrue (list_all (is_valued sample) ts) → IsFilling sample given old
    → Grows sample given old new (λ name. is_mentioned name ts) × IsTrue (list_all (is_valued new) ts)
