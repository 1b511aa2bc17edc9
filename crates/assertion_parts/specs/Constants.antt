-- The constants of assertions, and values for just these.
use Rattle.std.specs.Prelude.{◌≡◌, ℕ, ◌&&◌, Bool, true, false, List, None, nat_eq, nat_le}
use Rattle.std.specs.List.{list_all, list_any}
use Rattle.std.specs.Map.{lookup}
use Rattle.std.specs.Cmp.Lexicographic.{pointwise}
use Rattle.sv_word.specs.Words.{greatest_character}
use Rattle.sv_terms.specs.Meaning.{Named}
use Rattle.sv_terms.specs.Parts.{some_part}
use Rattle.sv_terms.specs.Truth.{AreValued}
use Rattle.sv_terms.specs.declared.term.Term.{Term}
use Rattle.sv_terms.specs.declared.term.Term.TheFolds.{fold-Term}
use Rattle.sv_terms.specs.declared.term.Term.TheOpen.{Term-F}

-- whether the constant stands in the term
abbrev pub mentions : List ℕ → Term → Bool
mentions name = some_part (λ other s. pointwise nat_eq name other) false

-- whether it stands in one of the terms
abbrev pub is_mentioned : List ℕ → List Term → Bool
is_mentioned name terms = list_any (mentions name) terms

-- only constants of the terms have values
abbrev pub AreOnly : Named → List Term → Type 0
AreOnly values terms = (name : List ℕ) → is_mentioned name terms ≡ false → lookup (pointwise nat_eq name) values ≡ None

-- values for just the constants of the terms, each of its constant's sort
pub record AreValuesOf (values : Named) (terms : List Term) : Type 0 where
  pub valued : AreValued values terms
  pub only : AreOnly values terms

-- each name has one sort: some values give each constant of the terms one of its sort
abbrev pub ConstantsHaveOneSort : List Term → Type 0
ConstantsHaveOneSort terms = (values : Named) × AreValued values terms

-- whether each literal of the term is a word
abbrev pub words_step : Term-F Bool → Bool
words_step (Term-F.Truth b) = true
words_step (Term-F.Number n) = true
words_step (Term-F.Text w) = list_all (λ c. nat_le c greatest_character) w
words_step (Term-F.Constant name s) = true
words_step (Term-F.Apply o bs) = list_all (λ b. b) bs
words_step (Term-F.InRe b r) = b
words_step (Term-F.Related t b c) = b && c
words_step (Term-F.Opaque s) = true

abbrev pub has_words : Term → Bool
has_words = fold-Term Bool words_step
