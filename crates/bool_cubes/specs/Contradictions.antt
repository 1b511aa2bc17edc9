-- Cubes that hold an atom and its negation.
use Rattle.std.specs.Prelude.{List, true, false}
use Rattle.std.specs.List.{Contains}
use Rattle.sv_terms.specs.Meaning.{Named}
use Rattle.sv_terms.specs.declared.term.Term.{Term}
use Rattle.literal_forms.specs.Literals.{AreTrueLiterals}
use Rattle.literal_forms.specs.declared.literal.Cube.{Cube}
use Rattle.literal_forms.specs.declared.literal.Literal.{Literal}

-- an atom stands among these literals, and its negation
pub record IsContradictory (ls : List Literal) : Type 0 where
  pub atom : Term
  pub holds : Contains ls (record { atom = atom; positive = true })
  pub fails : Contains ls (record { atom = atom; positive = false })

abbrev pub IsContradictoryCube : Cube → Type 0
IsContradictoryCube c = IsContradictory c.literals

-- such literals aren't all true
abbrev pub ContradictionsAreFalse : Type 0
ContradictionsAreFalse = (values : Named) (ls : List Literal) → IsContradictory ls → AreTrueLiterals values ls → ⊥
