-- Machines that are put together from machines whose edges are listed.
use Rattle.std.specs.Prelude.{◌≡◌, ℕ, ◌+◌, ◌⊎◌, ◌↔◌, List, [], ◌∷◌, ◌++◌}
use Rattle.machine_core.specs.declared.edge.Edge.{Edge}
use Rattle.machine_core.specs.declared.end.End.{End}
use Rattle.machine_core.specs.declared.graph.Graph.{Graph}
use Rattle.machine_core.specs.declared.machine.Move.{Move}
use Rattle.machine_core.specs.Costs.{add_costs}
use Rattle.machine_core.specs.Edges.{edge, ending, EndsAt, StepsBy}

-- an edge whose states are counted from `offset`
abbrev pub placed_edge : ℕ → Edge → Edge
placed_edge offset e = edge (offset + e.from) e.on e.cost (offset + e.to)

-- an end whose state is counted from `offset`
abbrev pub placed_end : ℕ → End → End
placed_end offset e = ending (offset + e.at) e.cost

-- a move as an edge that leaves `from`, where its target is counted from `offset`
abbrev pub leaving_edge : ℕ → ℕ → Move ℕ → Edge
leaving_edge from offset m = edge from m.on m.cost (offset + m.to)

-- state `s` of the whole does what state `u` of the part does: it is that state, or both are starts
abbrev pub StandsFor : ℕ → ℕ → ℕ → Type 0
StandsFor offset s u = (s ≡ offset + u) ⊎ ((s ≡ 0) × (u ≡ 0))

-- `new` is `old` with a part more, whose states are counted from `offset`, and whose start's steps and ends the start of the whole has too
pub record IsBranch (old new part : Graph) (offset : ℕ) : Type 0 where
  pub states : new.states ≡ old.states
  pub registers : new.registers ≡ old.registers
  pub steps : (s c : ℕ) (k : List ℕ) (t : ℕ) → StepsBy new.edges s c k t
      ↔ (StepsBy old.edges s c k t ⊎ ((u v : ℕ) × StandsFor offset s u × (t ≡ offset + v) × StepsBy part.edges u c k v))
  pub ends : (s : ℕ) (k : List ℕ) → EndsAt new.ends s k
      ↔ (EndsAt old.ends s k ⊎ ((u : ℕ) × StandsFor offset s u × EndsAt part.ends u k))

-- a word of the first language and a word of the second, one after the other, with their costs added
abbrev pub InTurn : (List ℕ → List ℕ → Type 0) → (List ℕ → List ℕ → Type 0) → List ℕ → List ℕ → Type 0
InTurn P Q word cost = (x y a b : List ℕ) × (word ≡ x ++ y) × P x a × Q y b × (cost ≡ add_costs a b)

-- the empty word, or a word that isn't empty and then such a word (re.* of the theory UnicodeStrings of SMT-LIB 2.6)
pub data Repeated (P : List ℕ → Type 0) : List ℕ → Type 0 where
  done : Repeated P []
  more : {c : ℕ} {u v w : List ℕ} → w ≡ (c ∷ u) ++ v → P (c ∷ u) → Repeated P v → Repeated P w

-- a move as an edge of the state of an end, at the cost of the end and the move; its target is counted from `offset`
abbrev pub after_edge : End → ℕ → Move ℕ → Edge
after_edge e offset m = edge e.at m.on (add_costs e.cost m.cost) (offset + m.to)

-- an end after another one, at the state of the first and at the cost of both
abbrev pub after_end : End → List ℕ → End
after_end e k = ending e.at (add_costs e.cost k)

-- a step of a machine's start, made after one of these ends
abbrev pub AfterSteps : List End → List Edge → ℕ → ℕ → ℕ → List ℕ → ℕ → Type 0
AfterSteps ends edges offset s c k t = (x y : List ℕ) × (v : ℕ) × EndsAt ends s x × StepsBy edges 0 c y v × (k ≡ add_costs x y) × (t ≡ offset + v)

-- an end of a machine's start, after one of these ends
abbrev pub AfterEnds : List End → List End → ℕ → List ℕ → Type 0
AfterEnds ends others s k = (x y : List ℕ) × EndsAt ends s x × EndsAt others 0 y × (k ≡ add_costs x y)

-- `new` is `old` where after each of these ends the steps and ends of the start of `part` follow
pub record AddsPart (old new part : Graph) (ends : List End) (offset : ℕ) : Type 0 where
  pub states : new.states ≡ old.states
  pub registers : new.registers ≡ old.registers
  pub steps : (s c : ℕ) (k : List ℕ) (t : ℕ) → StepsBy new.edges s c k t ↔ (StepsBy old.edges s c k t ⊎ AfterSteps ends part.edges offset s c k t)
  pub ends_are : (s : ℕ) (k : List ℕ) → EndsAt new.ends s k ↔ (EndsAt old.ends s k ⊎ AfterEnds ends part.ends s k)

-- a step of one of these edges to an end, as a step back to the start, where the states are counted from 1 and nothing costs
abbrev pub ReturnSteps : List Edge → List End → ℕ → ℕ → List ℕ → ℕ → Type 0
ReturnSteps edges ends s c k t = (u v : ℕ) × (s ≡ 1 + u) × StepsBy edges u c [] v × EndsAt ends v [] × (k ≡ []) × (t ≡ 0)

-- `new` is `old` with these returns
pub record Returns (old new : Graph) (edges : List Edge) (ends : List End) : Type 0 where
  pub states : new.states ≡ old.states
  pub registers : new.registers ≡ old.registers
  pub ends_are : new.ends ≡ old.ends
  pub steps : (s c : ℕ) (k : List ℕ) (t : ℕ) → StepsBy new.edges s c k t ↔ (StepsBy old.edges s c k t ⊎ ReturnSteps edges ends s c k t)
