-- When literals are true.
use Rattle.std.specs.Prelude.{◌≡◌, List, [], ◌∷◌, ◌⊎◌, Some}
use Rattle.std.specs.List.{AllByRecursion}
use Rattle.sv_terms.specs.Meaning.{Named, val}
use Rattle.sv_terms.specs.declared.value.Value.TheVariants.{Truth}
use Rattle.literal_forms.specs.declared.literal.Literal.{Literal}

-- a literal, and each literal of a cube, is true under the values
abbrev pub IsTrueLiteral : Named → Literal → Type 0
IsTrueLiteral values l = val values l.atom ≡ Some (Truth l.positive)

abbrev pub AreTrueLiterals : Named → List Literal → Type 0
AreTrueLiterals values ls = AllByRecursion (IsTrueLiteral values) ls

-- P holds of one of them at least
abbrev pub SomeOf : {X : Type 0} → (X → Type 0) → List X → Type 0
SomeOf P [] = ⊥
SomeOf P (x ∷ xs) = P x ⊎ SomeOf P xs
