-- The law of flat cubes.
use Rattle.std.specs.Prelude.{◌≡◌, ◌↔◌, Err, List, ⊤, IsTrue}
use Rattle.std.specs.List.{AllByRecursion}
use Rattle.sv_word.specs.Words.{IsWord}
use Rattle.sv_terms.specs.Meaning.{Named}
use Rattle.sv_terms.specs.Sorting.{is_valued}
use Rattle.sv_terms.specs.Transduction.{IsFormed}
use Rattle.sv_terms.specs.Truth.{AreWorded}
use Rattle.literal_forms.specs.Literals.{AreTrueLiterals}
use Rattle.literal_forms.specs.Shapes.{Shape, Shapes, truth, number, text, constant, apply, member, related, opaque, end, ◌⨾◌, seen}
use Rattle.literal_forms.specs.declared.literal.Literal.{Literal}
use Rattle.flat_cubes.specs.Flattening.{IsFlattened, IsFlattening, IsStraightCube}
use Rattle.flat_cubes.specs.Satisfying.{Extends}
use Rattle.flat_cubes.specs.declared.fault.FlatFault.{FlatFault}
use Rattle.flat_cubes.specs.declared.fault.FlatFault.TheVariants.{Outside, Twice, Cycle, Wide, Memory}
use Rattle.flat_cubes.specs.declared.flat.Flat.{Flat}

-- the literals of a term are words, and its transducers are formed
abbrev mutual
  pub IsSpelled : Shape → Type 0
  IsSpelled (truth b) = ⊤
  IsSpelled (number n) = ⊤
  IsSpelled (text w) = IsWord w
  IsSpelled (constant name s) = ⊤
  IsSpelled (apply o ss) = AreSpelled ss
  IsSpelled (member s r) = IsSpelled s
  IsSpelled (related t s u) = IsFormed t × IsSpelled s × IsSpelled u
  IsSpelled (opaque s) = ⊤

  pub AreSpelled : Shapes → Type 0
  AreSpelled end = ⊤
  AreSpelled (s ⨾ ss) = IsSpelled s × AreSpelled ss

-- a literal whose constants have values of their sorts, and whose words are words
pub record IsGood (values : Named) (l : Literal) : Type 0 where
  pub valued : IsTrue (is_valued values l.atom)
  pub spelled : IsSpelled (seen l.atom)

-- values that are words where they are texts make all literals true exactly where they extend to words
-- and numbers that satisfy the cube's flattening
abbrev pub FlatIsExact : Type 0
FlatIsExact = (values : Named) (ls : List Literal) (flat : Flat) → AreWorded values → AllByRecursion (IsGood values) ls → IsFlattening ls flat → AreTrueLiterals values ls ↔ Extends flat values

-- a cube has one flattening at most
abbrev pub FlatIsOne : Type 0
FlatIsOne = (ls : List Literal) (a b : Flat) → IsFlattening ls a → IsFlattening ls b → a ≡ b

-- any answer but the flat cube and want of memory
abbrev pub IsRefusal : FlatFault → Type 0
IsRefusal (Outside l) = ⊤
IsRefusal (Twice v) = ⊤
IsRefusal (Cycle vs) = ⊤
IsRefusal (Wide n) = ⊤
IsRefusal (Memory e) = ⊥

-- a cube that is refused isn't straight
abbrev pub RefusedHasNone : Type 0
RefusedHasNone = (ls : List Literal) (fault : FlatFault) → IsRefusal fault → IsFlattened ls (Err fault) → IsStraightCube ls → ⊥
