-- Terms of the tests: about one word.
use Rattle.std.specs.Prelude.{◌≡◌, [], ◌∷◌, IsTrue, Some}
use Rattle.sv_terms.specs.Meaning.{Named}
use Rattle.sv_terms.specs.Sorting.{is_valued, sort_of}
use Rattle.sv_terms.specs.declared.sort.Sort.{Sort}
use Rattle.sv_terms.specs.declared.term.Term.{Term}
use Rattle.sv_terms.specs.declared.value.Value.TheVariants.{Text}
use Rattle.sv_terms.specs.TransducerSizes.{has_formed}

-- a value of x
abbrev pub sample : Named
sample = (120 ∷ [], Text []) ∷ []

-- a term of this sort without transducers, in which x alone stands, as a word
pub record IsSample (s : Sort) (t : Term) : Type 0 where
  pub sorted : sort_of t ≡ Some s
  pub formed : IsTrue (has_formed t)
  pub valued : IsTrue (is_valued sample t)
