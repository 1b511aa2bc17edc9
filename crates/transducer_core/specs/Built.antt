-- Nodes as the states of a machine.
use Rattle.std.specs.Prelude.{◌≡◌, ◌↔◌, ℕ, ◌+◌, List, [], slice_get, Some, Contains, IsTrue}
use Rattle.machine_core.specs.Edges.{EndsAt, StepsBy}
use Rattle.machine_core.specs.declared.graph.Graph.{Graph}
use Rattle.transducer_core.specs.declared.node.OutputNode.{OutputNode}

-- a step of this state on a character to a place, which is the state one above it
abbrev pub IsStep : ℕ → ℕ × ℕ → ℕ → ℕ → List ℕ → ℕ → Type 0
IsStep state first s c cost to = (state ≡ s) × (first.0 ≡ c) × (cost ≡ []) × (to ≡ first.1 + 1)

-- a step of this state for one of these characters and places
abbrev pub IsAnyStep : ℕ → List (ℕ × ℕ) → ℕ → ℕ → List ℕ → ℕ → Type 0
IsAnyStep state firsts s c cost to = (first : ℕ × ℕ) × Contains firsts first × IsStep state first s c cost to

-- the states of the machine are these nodes
pub record IsBuilt (m : Graph) (ns : List OutputNode) : Type 0 where
  pub ends : (s : ℕ) (cost : List ℕ) → EndsAt m.ends s cost ↔ ((n : OutputNode) × (slice_get ns s ≡ Some n) × IsTrue n.ends × (cost ≡ []))
  pub steps : (s c : ℕ) (cost : List ℕ) (to : ℕ) → StepsBy m.edges s c cost to ↔ ((n : OutputNode) × (slice_get ns s ≡ Some n) × IsAnyStep s n.firsts s c cost to)
