-- Some of a cube's literals.
use Rattle.std.proofs.Common.{List, [], ◌∷◌, IsTrue}
use Rattle.std.specs.List.{AllByRecursion, Contains}
use Rattle.sv_terms.specs.Sorting.{is_valued}
use Rattle.sv_terms.specs.declared.term.Term.{Term}
use Rattle.literal_forms.specs.Literals.{IsTrueLiteral}
use Rattle.literal_forms.specs.Past.{IsFitting}
use Rattle.literal_forms.specs.Shapes.{seen}
use Rattle.literal_forms.specs.declared.literal.Cube.{Cube}
use Rattle.literal_forms.specs.declared.literal.Literal.{Literal}
use Rattle.straight_line.specs.Laws.{IsSpelled}
use Rattle.flat_cubes.proofs.Members.{all_contains}
use Rattle.decide.specs.CubeValues.{CubeHasNoValues}
use Rattle.decide.specs.Jobs.{IsAskedCube}

-- what holds of all holds of those that are among them
pub among : {X : Type 0} (P : X → Type 0) (xs ys : List X) → AllByRecursion P xs → AllByRecursion (Contains xs) ys → AllByRecursion P ys
among {X} P xs [] h k = tt
among {X} P xs (y ∷ ys) h k = (all_contains P xs y k.0 h, among P xs ys h k.1)

module _ (cube part : Cube) (some : AllByRecursion (Contains cube.literals) part.literals) where
  -- they may be asked where all may
  pub part-asked : (terms : List Term) → IsAskedCube terms cube → IsAskedCube terms part
  part-asked terms h = record {
    fits = among IsFitting cube.literals part.literals h.fits some;
    spelled = among (λ (l : Literal). IsSpelled (seen l.atom)) cube.literals part.literals h.spelled some;
    valued = λ values a. among (λ (l : Literal). IsTrue (is_valued values l.atom)) cube.literals part.literals (h.valued values a) some;
    one_sort = h.one_sort;
  }

  -- where they have no values, all have none
  pub part-none : CubeHasNoValues part → CubeHasNoValues cube
  part-none none = λ values t. none values (record {
    worded = t.worded;
    valued = among (λ (l : Literal). IsTrue (is_valued values l.atom)) cube.literals part.literals t.valued some;
    holds = among (IsTrueLiteral values) cube.literals part.literals t.holds some;
  })
