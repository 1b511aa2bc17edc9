-- Lists of a machine's states as states: the subset construction (Rabin and Scott, Finite Automata and Their Decision Problems, 1959).
-- The machine has no registers, so that each of its steps and ends costs the empty list.
use Rattle.std.specs.Prelude.{◌≡◌, ℕ, ◌≤◌, ◌<◌, ◌↔◌, Bool, true, false, IsTrue, List, [], ◌∷◌, Any, Contains}
use Rattle.std.specs.List.Sorted.{IsStrictlyIncreasing}
use Rattle.sv_word.specs.Words.{IsWord, greatest_character}
use Rattle.machine_core.specs.declared.edge.Edge.{Edge}
use Rattle.machine_core.specs.declared.end.End.{End}
use Rattle.machine_core.specs.declared.graph.Graph.{Graph}
use Rattle.machine_core.specs.Language.{RunsFrom}
use Rattle.machine_core.specs.Edges.{EndsAt, StepsBy}
use Rattle.machine_core.specs.Graphs.{Accepts}

-- these are all numbers with a fact, each once and in order
pub record ListsAll (P : ℕ → Type 0) (list : List ℕ) : Type 0 where
  pub ascending : IsStrictlyIncreasing list
  pub exact : (t : ℕ) → Contains list t ↔ P t

-- some states of a machine that has so many, each once and in order
pub record IsStateSet (states : ℕ) (list : List ℕ) : Type 0 where
  pub ascending : IsStrictlyIncreasing list
  pub below : (s : ℕ) → Contains list s → s < states

-- a step leads from some state of the list to `t` on this character
abbrev pub StepsFromSome : List Edge → List ℕ → ℕ → ℕ → Type 0
StepsFromSome edges list c t = Any (λ s. StepsBy edges s c [] t) list

-- a word may end in some state of the list
abbrev pub EndsInSome : List End → List ℕ → Type 0
EndsInSome ends list = Any (λ s. EndsAt ends s []) list

-- a word may end in the list: where it may end in some state of it, or negated, where it may end in none
abbrev pub MayEnd : Bool → List End → List ℕ → Type 0
MayEnd false ends list = EndsInSome ends list
MayEnd true ends list = EndsInSome ends list → ⊥

abbrev pub SubsetEnds : Bool → List End → List ℕ → List ℕ → Type 0
SubsetEnds negated ends list cost = (cost ≡ []) × MayEnd negated ends list

-- on a character the list leads to all states that its states step to; to none of them, which is the dead list, only where negated
abbrev pub SubsetSteps : Bool → List Edge → List ℕ → ℕ → List ℕ → List ℕ → Type 0
SubsetSteps negated edges list c cost next =
    (c ≤ greatest_character) × (cost ≡ []) × ListsAll (StepsFromSome edges list c) next × (next ≡ [] → IsTrue negated)

-- the lists read the word from the one that has the start alone, at this cost
abbrev pub SubsetAccepts : Bool → Graph → List ℕ → List ℕ → Type 0
SubsetAccepts negated m word cost = RunsFrom (SubsetEnds negated m.ends) (SubsetSteps negated m.edges) (0 ∷ []) word cost

-- a word of the machine, or negated, any other word
abbrev pub HasSignedWord : Bool → Graph → List ℕ → Type 0
HasSignedWord false m word = Accepts m word []
HasSignedWord true m word = IsWord word × (Accepts m word [] → ⊥)
