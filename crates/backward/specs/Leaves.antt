-- Leaves of a flat cube: families of machines, one for each source variable, that backward steps lead to.
use Rattle.std.specs.Prelude.{◌≡◌, ◌↔◌, ℕ, ◌<◌, ◌≤◌, true, false, List, [], ◌∷◌, length, map, All, Some, None, slice_get}
use Rattle.std.specs.List.{AllByRecursion}
use Rattle.machine_core.specs.declared.graph.Graph.{Graph}
use Rattle.machine_core.specs.declared.run.Run.{Run}
use Rattle.machine_core.specs.Graphs.{Accepts, IsRunOf}
use Rattle.sv_terms.specs.Language.{Word}
use Rattle.trim_search.specs.Useful.{IsOnRun}
use Rattle.flat_cubes.specs.Using.{is_defined}
use Rattle.cube_bounds.specs.Bounds.{states, sources_of}
use Rattle.flat_cubes.specs.Satisfying.{ComesBy, word_at, lengths_of, SatisfiesWords}
use Rattle.flat_cubes.specs.declared.definition.Definition.{Definition}
use Rattle.flat_cubes.specs.declared.flat.Flat.{Flat}
use Rattle.backward.specs.Families.{Family, Words, HasMachine, Conf, AreWide}
use Rattle.backward.specs.Chains.{width, IsLedFrom}

-- the machines of a family, in the order of their variables
abbrev pub machines_of : Family → List Graph
machines_of [] = []
machines_of (None ∷ ms) = machines_of ms
machines_of (Some m ∷ ms) = m ∷ machines_of ms

-- the words of the source variables
abbrev pub source_words : Flat → Words → List Word
source_words flat words = map words (sources_of flat)

-- the definitions hold at these words
abbrev pub Obey : List Definition → Words → Type 0
Obey ds words = AllByRecursion (λ (d : Definition). ComesBy words (words d.variable) d.by) ds

-- a machine for each source variable, and for no other
pub record IsOverSources (flat : Flat) (ms : Family) : Type 0 where
  pub size : length ms ≡ length flat.variables
  pub sources : (v : ℕ) (m : Graph) → HasMachine ms v m → is_defined flat.definitions v ≡ false
  pub others : (v : ℕ) → slice_get ms v ≡ Some None → is_defined flat.definitions v ≡ true

-- some run, at most so many states, and each state lies on a run
pub record IsUseful (bound : ℕ) (m : Graph) : Type 0 where
  pub inhabited : (run : Run ℕ) × IsRunOf m run
  pub bounded : m.states ≤ bound
  pub used : (s : ℕ) → s < m.states → IsOnRun m s

-- the machine `n` has the words of `m` at the same costs, and some run; it has no more states, and each lies on a run
pub record IsLess (m n : Graph) : Type 0 where
  pub language : (word cost : List ℕ) → Accepts n word cost ↔ Accepts m word cost
  pub registers : n.registers ≡ m.registers
  pub states : n.states ≤ m.states
  pub inhabited : (run : Run ℕ) × IsRunOf n run
  pub used : (s : ℕ) → s < n.states → IsOnRun n s

-- a family of which each machine was cut down so
pub record IsLessened (ms ns : Family) : Type 0 where
  pub size : length ns ≡ length ms
  pub carried : (v : ℕ) → slice_get ms v ≡ Some None → slice_get ns v ≡ Some None
  pub each : (v : ℕ) (m : Graph) → HasMachine ms v m → (n : Graph) × HasMachine ns v n × IsLess m n

-- words of all variables that meet the cube's parts and definitions; those of the source variables are these, and the registers have the lengths of the words
pub record ExtendsTo (flat : Flat) (words : Words) (totals : List ℕ) : Type 0 where
  pub all : List Word
  pub same : source_words flat (word_at all) ≡ source_words flat words
  pub satisfies : SatisfiesWords flat all
  pub lengths : lengths_of flat.registers all ≡ totals

-- the machines, one for each source variable in order, are a leaf: a chain leads to them from the text, they have just the cube's registers,
-- and whatever they read extends to words that meet the cube
pub record IsLeaf (flat : Flat) (machines : List Graph) : Type 0 where
  pub family : Family
  pub over : IsOverSources flat family
  pub are : machines ≡ machines_of family
  pub wide : AreWide (width flat) family
  pub useful : All (IsUseful (states flat)) machines
  pub extends : (words : Words) (totals : List ℕ) → Conf (width flat) family words totals → ExtendsTo flat words totals
  pub whole : flat.broken ≡ false
  pub chain : IsLedFrom flat 0 family
