-- What the numbers of a flat cube say of its machines and its words.
use Rattle.std.specs.Prelude.{◌≡◌, ℕ, ◌+◌, ◌*◌, ◌^◌, ◌<◌, ◌≤◌, max, pos, ◌≤ℤ◌, List, length, nat_eq, false, Some, slice_get, Contains, count_by}
use Rattle.std.specs.List.{AllByRecursion, sum_by}
use Rattle.sv_terms.specs.Language.{Word}
use Rattle.sv_terms.specs.Transduction.{WritesWithin}
use Rattle.sv_terms.specs.TransducerSizes.{edges_most, ends_most}
use Rattle.sv_terms.specs.declared.transducer.Transducer.{Transducer}
use Rattle.flat_cubes.specs.Using.{is_defined, used}
use Rattle.cube_bounds.specs.Bounds.{own_bound, product_by, sources, sources_of, states, states_at, through_states}
use Rattle.cube_bounds.specs.Growth.{growth, growth_at, growth_by, growth_of, longest_word, reach}
use Rattle.flat_cubes.specs.Satisfying.{Defines, word_at}
use Rattle.flat_cubes.specs.Straight.{HasFormed, IsStraight}
use Rattle.flat_cubes.specs.declared.definition.By.{By}
use Rattle.flat_cubes.specs.declared.definition.By.TheVariants as by
use Rattle.flat_cubes.specs.declared.definition.Definition.{Definition}
use Rattle.flat_cubes.specs.declared.flat.Flat.{Flat}
use Rattle.flat_cubes.specs.declared.variable.Variable.{Variable}

-- what a definition of x multiplies states(v) by: states(x), times the states of the transducer that
-- defines x, for each occurrence of v
abbrev pub factor : Flat → ℕ → Definition → ℕ
factor flat v d = (through_states d.by * states_at flat d.variable) ^ count_by (nat_eq v) (used d.by)

-- states(v) is v's own bound, times the factors of all definitions
abbrev pub StatesAreSolved : Type 0
StatesAreSolved = (flat : Flat) → IsStraight flat → (v : ℕ) (x : Variable) → slice_get flat.variables v ≡ Some x
    → states_at flat v ≡ own_bound x * product_by (factor flat v) flat.definitions

-- and no more than the states of the cube
abbrev pub StatesAreBounded : Type 0
StatesAreBounded = (flat : Flat) (v : ℕ) → states_at flat v ≤ states flat

-- growth(x) of a variable that is defined is that of its definition, and 1 of one that isn't
pub record IsGrowthOf (flat : Flat) : Type 0 where
  pub defined : (d : Definition) → Contains flat.definitions d → growth_at flat d.variable ≡ growth_by (growth_of flat) d.by
  pub free : (v : ℕ) → is_defined flat.definitions v ≡ false → growth_at flat v ≡ 1

abbrev pub GrowthIsSolved : Type 0
GrowthIsSolved = (flat : Flat) → IsStraight flat → IsGrowthOf flat

-- it is at least 1, and no more than that of the cube
abbrev pub GrowthIsBounded : Type 0
GrowthIsBounded = (flat : Flat) → IsStraight flat → (v : ℕ) → (1 ≤ growth_at flat v) × (growth_at flat v ≤ growth flat)

-- over n characters a transducer for this definition writes at most slope times n, and base besides
abbrev pub slope_of : By → ℕ
slope_of (by.Concat vs) = 1
slope_of (by.First p u v) = 1
slope_of (by.All p u v) = max 1 (length u)
slope_of (by.Through t v) = edges_most t.edges

abbrev pub base_of : By → ℕ
base_of (by.Concat vs) = 0
base_of (by.First p u v) = length p + length u
base_of (by.All p u v) = length p * max 1 (length u)
base_of (by.Through t v) = ends_most t.ends

-- growth(x) isn't below that of a variable v from which x is defined, nor below what so many characters become
pub record GrowsAlong (flat : Flat) (d : Definition) (v : ℕ) : Type 0 where
  pub kept : growth_at flat v ≤ growth_at flat d.variable
  pub written : slope_of d.by * growth_at flat v + base_of d.by ≤ growth_at flat d.variable

abbrev pub GrowthGoesAlong : Type 0
GrowthGoesAlong = (flat : Flat) → IsStraight flat → (d : Definition) → Contains flat.definitions d → (v : ℕ) → Contains (used d.by) v → GrowsAlong flat d v

abbrev pub TransducersWriteWithin : Type 0
TransducersWriteWithin = (t : Transducer) (v : ℕ) → WritesWithin t (λ n. slope_of (by.Through t v) * n + base_of (by.Through t v))

-- some variable isn't defined where there is a register
abbrev pub SourcesStand : Type 0
SourcesStand = (flat : Flat) → IsStraight flat → 0 < length flat.registers → 0 < sources flat

-- how many characters the words of all source variables have together
abbrev pub source_length : Flat → List Word → ℕ
source_length flat words = sum_by (λ v. length (word_at words v)) (sources_of flat)

-- words that meet the definitions have at most growth * (n + 1) characters, with n in the source words,
-- and none is longer than a word may be where n is at most reach
pub record AreShort (flat : Flat) (words : List Word) (v : ℕ) : Type 0 where
  pub each : length (word_at words v) ≤ growth_at flat v * (source_length flat words + 1)
  pub all : length (word_at words v) ≤ growth flat * (source_length flat words + 1)
  pub reached : pos (source_length flat words) ≤ℤ reach flat → length (word_at words v) ≤ longest_word

abbrev pub WordsAreShort : Type 0
WordsAreShort = (flat : Flat) (words : List Word) → IsStraight flat → HasFormed flat → AllByRecursion (Defines words) flat.definitions
    → (v : ℕ) → v < length flat.variables → AreShort flat words v
