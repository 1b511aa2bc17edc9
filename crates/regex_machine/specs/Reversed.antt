-- Machines without registers that read words from their ends on.
use Rattle.std.specs.Prelude.{◌≡◌, ℕ, ◌+◌, ◌≤◌, ◌↔◌, ◌⊎◌, ⊤, List, [], ◌∷◌, reverse, Contains}
use Rattle.machine_core.specs.declared.edge.Edge.{Edge}
use Rattle.machine_core.specs.declared.end.End.{End}
use Rattle.machine_core.specs.declared.graph.Graph.{Graph}
use Rattle.machine_core.specs.Edges.{edge, EndsAt}
use Rattle.sv_word.specs.Words.{IsWord}
use Rattle.sv_terms.specs.Language.{InFirstOnly}
use Rattle.regex_machine.specs.Joined.{WordsOf, HasWords}

-- the edge turned round, where states count from 1
abbrev pub turned_edge : Edge → Edge
turned_edge e = edge (e.to + 1) e.on [] (e.from + 1)

-- the same from state 0, in which words begin
abbrev pub begun_edge : Edge → Edge
begun_edge e = edge 0 e.on [] (e.from + 1)

-- an edge turned round is one more, and so is the same from state 0 where the edge leads to an end
pub record AddsTurned (ends : List End) (e : Edge) (old new : List Edge) : Type 0 where
  pub kept : (d : Edge) → Contains old d → Contains new d
  pub back : Contains new (turned_edge e)
  pub begun : EndsAt ends e.to [] → Contains new (begun_edge e)
  pub only : (d : Edge) → Contains new d → Contains old d ⊎ ((turned_edge e ≡ d) ⊎ ((begun_edge e ≡ d) × EndsAt ends e.to []))

-- these are the edges turned round, and from state 0 those of them that lead to an end
pub record AreTurned (ends : List End) (edges turned : List Edge) : Type 0 where
  pub back : (e : Edge) → Contains edges e → Contains turned (turned_edge e)
  pub begun : (e : Edge) → Contains edges e → EndsAt ends e.to [] → Contains turned (begun_edge e)
  pub only : (d : Edge) → Contains turned d → (e : Edge) × Contains edges e × ((turned_edge e ≡ d) ⊎ ((begun_edge e ≡ d) × EndsAt ends e.to []))

-- a word may end in state 1, and in state 0 where the empty word may end in the start
abbrev pub AreTurnedEnds : List End → List End → Type 0
AreTurnedEnds ends turned = (u : ℕ) → EndsAt turned u [] ↔ ((u ≡ 1) ⊎ ((u ≡ 0) × EndsAt ends 0 []))

-- without registers and with at most one state more it reads the words of the machine from their ends on
pub record IsReversed (m n : Graph) : Type 0 where
  pub reads : HasWords (λ w. WordsOf m (reverse w)) n
  pub states : n.states ≤ m.states + 1

-- one for each, in their order
abbrev pub AreReversed : List Graph → List Graph → Type 0
AreReversed [] [] = ⊤
AreReversed [] (n ∷ ns) = ⊥
AreReversed (m ∷ ms) [] = ⊥
AreReversed (m ∷ ms) (n ∷ ns) = IsReversed m n × AreReversed ms ns

-- it reads the words that the machine doesn't read, and has at most so many states
abbrev pub ReadsOthersWithin : Graph → ℕ → Graph → Type 0
ReadsOthersWithin m limit n = HasWords (λ w. IsWord w × (WordsOf m w → ⊥)) n × (n.states ≤ limit)

-- it reads the words of the first machine that no other reads, and has at most so many states
abbrev pub ReadsFirstOnlyWithin : List Graph → ℕ → Graph → Type 0
ReadsFirstOnlyWithin ms limit n = HasWords (InFirstOnly WordsOf ms) n × (n.states ≤ limit)

-- it reads the words of the machine from their ends on, and has at most so many states
abbrev pub ReadsBackWithin : Graph → ℕ → Graph → Type 0
ReadsBackWithin m limit n = HasWords (λ w. WordsOf m (reverse w)) n × (n.states ≤ limit)

-- it reads the words of the machine, and has at most so many states
abbrev pub ReadsSameWithin : Graph → ℕ → Graph → Type 0
ReadsSameWithin m limit n = HasWords (WordsOf m) n × (n.states ≤ limit)
