-- When values make assertions true.
use Rattle.std.specs.Prelude.{◌≡◌, ⊤, true, not, List, All, IsTrue, Some, filter}
use Rattle.sv_word.specs.Words.{IsWord}
use Rattle.sv_terms.specs.Meaning.{Named, val}
use Rattle.sv_terms.specs.Parts.{is_opaque}
use Rattle.sv_terms.specs.Sorting.{is_valued}
use Rattle.sv_terms.specs.declared.term.Term.{Term}
use Rattle.sv_terms.specs.declared.value.Value.{Value}
use Rattle.sv_terms.specs.declared.value.Value.TheVariants.{Truth, Number, Text}

-- the assertions without opaque parts
abbrev pub clear_of : List Term → List Term
clear_of terms = filter (λ t. not (is_opaque t)) terms

-- the others
abbrev pub opaque_of : List Term → List Term
opaque_of terms = filter is_opaque terms

-- the value is no text, or its text is a word: a list of characters
abbrev pub IsWorded : Value → Type 0
IsWorded (Truth b) = ⊤
IsWorded (Number n) = ⊤
IsWorded (Text w) = IsWord w

-- each text among the values is a word
abbrev pub AreWorded : Named → Type 0
AreWorded values = All (λ e. IsWorded e.1) values

-- each constant of the terms has a value of its sort
abbrev pub AreValued : Named → List Term → Type 0
AreValued values terms = All (λ t. IsTrue (is_valued values t)) terms

-- each term is true under the values
abbrev pub AllTrue : Named → List Term → Type 0
AllTrue values terms = All (λ t. val values t ≡ Some (Truth true)) terms

-- truth values, numbers and words, each of its constant's sort, that make each term true
pub record AreTrueAt (values : Named) (terms : List Term) : Type 0 where
  pub worded : AreWorded values
  pub valued : AreValued values terms
  pub holds : AllTrue values terms

-- some such values exist
abbrev pub HasValues : List Term → Type 0
HasValues terms = (values : Named) × AreTrueAt values terms

-- no such values exist
abbrev pub HasNoValues : List Term → Type 0
HasNoValues terms = (values : Named) → AreTrueAt values terms → ⊥
