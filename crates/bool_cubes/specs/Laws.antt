-- The law of cubes.
use Rattle.std.specs.Prelude.{◌≡◌, Bool, false, IsTrue, ◌↔◌, Some, List, [], ◌∷◌, length}
use Rattle.std.specs.List.{AllByRecursion, list_all}
use Rattle.sv_terms.specs.Meaning.{Named}
use Rattle.sv_terms.specs.Parts.{is_opaque}
use Rattle.sv_terms.specs.Truth.{AllTrue}
use Rattle.sv_terms.specs.Sorting.{is_valued, sort_of}
use Rattle.sv_terms.specs.declared.op.Op.{Op}
use Rattle.sv_terms.specs.declared.sort.Sort.TheVariants as sort
use Rattle.sv_terms.specs.declared.term.Term.{Term}
use Rattle.sv_terms.specs.declared.term.Term.TheVariants as term
use Rattle.bool_cubes.specs.Cubes.{SomeCubeTrue, cubes_of, count}
use Rattle.bool_cubes.specs.Past.{HasNoPast}
use Rattle.literal_forms.specs.Past.{IsFitting}
use Rattle.bool_cubes.specs.Trees.{tree_of}
use Rattle.literal_forms.specs.declared.literal.Literal.{Literal}
use Rattle.literal_forms.specs.declared.literal.Cube.{Cube}

-- a term of sort Bool without opaque parts, whose constants have values of their sorts
pub record IsAssertion (values : Named) (t : Term) : Type 0 where
  pub sorted : sort_of t ≡ Some sort.Bool
  pub valued : IsTrue (is_valued values t)
  pub clear : is_opaque t ≡ false

-- a term of sort Bool without opaque parts
pub record IsClearBool (t : Term) : Type 0 where
  pub sorted : sort_of t ≡ Some sort.Bool
  pub clear : is_opaque t ≡ false

-- assertions are all true exactly where some cube of them is
abbrev pub CubesAreExact : Type 0
CubesAreExact = (values : Named) (ts : List Term) → AllByRecursion (IsAssertion values) ts → AllTrue values ts ↔ SomeCubeTrue values ts

-- their number is the number by sums and products
abbrev pub CubesAreCounted : Type 0
CubesAreCounted = (ts : List Term) → length (cubes_of ts) ≡ count (tree_of ts)

-- each constant of a cube's literals has a value of its sort
abbrev pub IsValuedCube : Named → Cube → Type 0
IsValuedCube values c = AllByRecursion (λ (l : Literal). IsTrue (is_valued values l.atom)) c.literals

-- the cubes of assertions have no constants but those of the assertions
abbrev pub LiteralsAreValued : Type 0
LiteralsAreValued = (values : Named) (ts : List Term) → AllByRecursion (IsAssertion values) ts → AllByRecursion (IsValuedCube values) (cubes_of ts)

-- where no step of the assertions is past 128 bits, none of a cube's literals is
abbrev pub IsFittingCube : Cube → Type 0
IsFittingCube c = AllByRecursion IsFitting c.literals

abbrev pub LiteralsFit : Type 0
LiteralsFit = (ts : List Term) → HasNoPast ts → AllByRecursion IsFittingCube (cubes_of ts)

-- a test that a function of two terms passes where both do, and the arguments of a function where it does
pub record IsPassedOn (p : Term → Bool) : Type 0 where
  pub joined : (o : Op) (s t : Term) → IsTrue (p s) → IsTrue (p t) → IsTrue (p (term.Apply o (s ∷ t ∷ [])))
  pub parts : (o : Op) (ts : List Term) → IsTrue (p (term.Apply o ts)) → IsTrue (list_all p ts)

abbrev pub IsPassedCube : (Term → Bool) → Cube → Type 0
IsPassedCube p c = AllByRecursion (λ (l : Literal). IsTrue (p l.atom)) c.literals

-- where assertions pass such a test, the atoms of their cubes do: that each constant has one sort, that each text is a word, that each transducer is formed
abbrev pub LiteralsPass : Type 0
LiteralsPass = (p : Term → Bool) → IsPassedOn p → (ts : List Term) → IsTrue (list_all p ts) → AllByRecursion (IsPassedCube p) (cubes_of ts)
