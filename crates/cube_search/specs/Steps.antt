-- One definition carried on the way to the leaves of a flat cube.
use Rattle.std.specs.Prelude.{◌≡◌, ◌↔◌, ◌⊎◌, ℕ, ◌<◌, List, length, map, Contains, Some, slice_get}
use Rattle.sv_terms.specs.Meaning.{joined}
use Rattle.machine_core.specs.declared.graph.Graph.{Graph}
use Rattle.flat_cubes.specs.declared.definition.By.{By}
use Rattle.flat_cubes.specs.declared.definition.By.TheVariants.{Concat}
use Rattle.flat_cubes.specs.declared.flat.Flat.{Flat}
use Rattle.backward.specs.Chains.{ConfBefore}
use Rattle.backward.specs.Definitions.{definition, reads}
use Rattle.backward.specs.Families.{Family, Words, HasMachine, put, Conf}
use Rattle.backward.specs.Pieces.{AreCuts, ConfCut}
use Rattle.backward.specs.Steps.{CanCutAt, CanPassAt, IsCutAt, IsMadeAt}
use Rattle.backward.specs.declared.leaf_state.LeafState.{LeafState}

-- the definition at this place can be carried: as a concatenation at these cuts, or through a transducer
abbrev pub CanStep : Flat → ℕ → Family → List ℕ → Type 0
CanStep flat place ms cuts = CanCutAt flat place ms cuts ⊎ CanPassAt flat place ms

-- a family with the definition at this place carried, at these cuts where it is a concatenation
pub record IsNextFamily (flat : Flat) (place : ℕ) (cuts : List ℕ) (old new : LeafState) : Type 0 where
  pub registers : new.registers ≡ old.registers
  pub cut : IsCutAt flat place cuts old new
  pub passed : (x v : ℕ) (b : By) → slice_get flat.definitions place ≡ Some (definition x b) → reads b ≡ Some v
      → (words : Words) (totals : List ℕ) → Conf new.registers new.machines words totals ↔ ConfBefore old.registers old.machines x b words totals
  pub made : IsMadeAt flat place cuts old.machines new

-- the definition at this place is the concatenation of the pieces; the cuts are chosen so far: fewer than there are pieces, all of them states of the machine,
-- which can be carried at any list of its states that is long enough
pub record IsCutting (flat : Flat) (place : ℕ) (pieces : List ℕ) (ms : Family) (cuts : List ℕ) : Type 0 where
  pub variable : ℕ
  pub machine : Graph
  pub defined : slice_get flat.definitions place ≡ Some (definition variable (Concat pieces))
  pub has : HasMachine ms variable machine
  pub fewer : length cuts < length pieces
  pub states : (s : ℕ) → Contains cuts s → s < machine.states
  pub can : (all : List ℕ) → AreCuts machine pieces all → CanCutAt flat place ms all

-- the cuts of a machine of the family are exact: together they have the configurations with the joined word
abbrev pub AreExact : ℕ → Family → Type 0
AreExact width ms = (x : ℕ) (m : Graph) (pieces : List ℕ) (words : Words) (totals : List ℕ) → HasMachine ms x m → 0 < length pieces
    → ((cuts : List ℕ) × AreCuts m pieces cuts × ConfCut width ms x pieces cuts words totals) ↔ Conf width ms (put words x (joined (map words pieces))) totals
