-- When words and numbers satisfy a flat cube.
use Rattle.std.specs.Prelude.{◌≡◌, ℕ, ℤ, List, [], map, length, get_or, Bool, true, false, Some}
use Rattle.std.specs.List.{AllByRecursion, AllZip}
use Rattle.std.specs.Map.{lookup}
use Rattle.std.specs.Cmp.Lexicographic.{pointwise}
use Rattle.std.specs.Prelude.{reverse, nat_eq}
use Rattle.sv_word.specs.Words.{IsWord}
use Rattle.sv_terms.specs.Language.{Word, In}
use Rattle.sv_terms.specs.Meaning.{Named, joined, is_digit}
use Rattle.sv_terms.specs.Replacement.{begins, occurs, replace_first, replace_all}
use Rattle.sv_terms.specs.Transduction.{Pairs}
use Rattle.sv_terms.specs.declared.value.Value.{Value}
use Rattle.sv_terms.specs.declared.value.Value.TheVariants as value
use Rattle.sv_linear.specs.Rows.{MeetsRow, unknowns_of}
use Rattle.flat_cubes.specs.declared.variable.Own.{Own}
use Rattle.flat_cubes.specs.declared.variable.Own.TheVariants as own
use Rattle.flat_cubes.specs.declared.variable.Variable.{Variable}
use Rattle.flat_cubes.specs.declared.definition.By.{By}
use Rattle.flat_cubes.specs.declared.definition.By.TheVariants as by
use Rattle.flat_cubes.specs.declared.definition.Definition.{Definition}
use Rattle.flat_cubes.specs.declared.flat.Flat.{Flat}

-- what a part says of a word
abbrev pub Says : Own → Word → Type 0
Says (own.Word u) w = w ≡ u
Says (own.InRe r) w = In r w
Says (own.Prefix p) w = begins p w ≡ true
Says (own.Suffix p) w = begins (reverse p) (reverse w) ≡ true
Says (own.Contains p) w = occurs p w ≡ true
Says own.Digit w = is_digit w ≡ true

-- a part holds, or with false doesn't
abbrev pub MeetsPart : Word → Own × Bool → Type 0
MeetsPart w (o, true) = Says o w
MeetsPart w (o, false) = Says o w → ⊥

-- a word that meets all parts of its variable
abbrev pub MeetsParts : Variable → Word → Type 0
MeetsParts v w = IsWord w × AllByRecursion (MeetsPart w) v.parts

-- the word of a variable
abbrev pub word_at : List Word → ℕ → Word
word_at words v = get_or words v []

-- w comes from the words of the variables as the definition says
abbrev pub ComesBy : (ℕ → Word) → Word → By → Type 0
ComesBy words w (by.Concat vs) = w ≡ joined (map words vs)
ComesBy words w (by.First p u v) = w ≡ replace_first p u (words v)
ComesBy words w (by.All p u v) = w ≡ replace_all p u (words v)
ComesBy words w (by.Through t v) = Pairs t (words v) w

abbrev pub Defines : List Word → Definition → Type 0
Defines words d = ComesBy (word_at words) (word_at words d.variable) d.by

-- the lengths of the registers
abbrev pub lengths_of : List ℕ → List Word → List ℕ
lengths_of registers words = map (λ v. length (word_at words v)) registers

-- the words of the variables meet the parts and the definitions: what the text says without its rows
pub record SatisfiesWords (flat : Flat) (words : List Word) : Type 0 where
  pub parts : AllZip MeetsParts flat.variables words
  pub definitions : AllByRecursion (Defines words) flat.definitions

-- the numbers of the integer constants and the lengths of the registers meet the rows
pub record SatisfiesRows (flat : Flat) (numbers : List ℤ) (lengths : List ℕ) : Type 0 where
  pub count : length numbers ≡ length flat.integers
  pub rows : AllByRecursion (MeetsRow (unknowns_of numbers lengths)) flat.rows

-- the words of the variables and the numbers of the integer constants satisfy the cube
pub record Satisfies (flat : Flat) (words : List Word) (numbers : List ℤ) : Type 0 where
  pub strings : SatisfiesWords flat words
  pub rows : SatisfiesRows flat numbers (lengths_of flat.registers words)
  pub whole : flat.broken ≡ false

abbrev pub HasValue : Named → Value → List ℕ → Type 0
HasValue values v name = lookup (pointwise nat_eq name) values ≡ Some v

-- each name of the variable has its word
abbrev pub NamesHave : Named → Variable → Word → Type 0
NamesHave values v w = AllByRecursion (HasValue values (value.Text w)) v.names

-- the values of the constants are those of the variables, the integers and the truths
pub record AreModelValues (flat : Flat) (words : List Word) (numbers : List ℤ) (values : Named) : Type 0 where
  pub names : AllZip (NamesHave values) flat.variables words
  pub integers : AllZip (λ n z. HasValue values (value.Number z) n) flat.integers numbers
  pub truths : AllByRecursion (λ (t : List ℕ × Bool). HasValue values (value.Truth t.1) t.0) flat.truths

-- the values extend to words and numbers that satisfy the cube
pub record Extends (flat : Flat) (values : Named) : Type 0 where
  pub words : List Word
  pub numbers : List ℤ
  pub of : AreModelValues flat words numbers values
  pub satisfied : Satisfies flat words numbers
