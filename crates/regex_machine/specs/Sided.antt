-- A machine without registers, or all words that aren't its, by lists of its states: a list of one for the machine, and the lists of the subset construction for the others.
use Rattle.std.specs.Prelude.{◌≡◌, ℕ, ◌^◌, ◌<◌, ◌≤◌, ◌↔◌, Bool, true, false, List, [], ◌∷◌}
use Rattle.std.proofs.Common.{refl, sym}
use Rattle.sv_word.specs.Words.{IsWord, greatest_character}
use Rattle.machine_core.specs.declared.graph.Graph.{Graph}
use Rattle.machine_core.specs.Costs.{IsCost}
use Rattle.machine_core.specs.Counts.{AreAtMost, at_most-made, at_most-below}
use Rattle.machine_core.specs.Edges.{EndsAt, StepsBy}
use Rattle.machine_core.specs.EdgeLaws.{step_target, step_character}
use Rattle.machine_core.specs.Language.{RunsFrom}
use Rattle.subset_machine.specs.Subsets.{IsStateSet, SubsetEnds, SubsetSteps}
use Rattle.subset_machine.specs.StateSets.{sets_at_most}
use Rattle.subset_machine.specs.SubsetLaws.{first-states, next-states, step-cost, end-cost}
use Rattle.sv_terms.specs.Language.{Word}
use Rattle.regex_machine.specs.Joined.{WordsOf}
use Rattle.regex_machine.specs.Laws.{no-cost}

abbrev pub IsSideState : Bool → Graph → List ℕ → Type 0
IsSideState false m at = (s : ℕ) × (at ≡ s ∷ []) × (s < m.states)
IsSideState true m at = IsStateSet m.states at

abbrev pub SideEnds : Bool → Graph → List ℕ → List ℕ → Type 0
SideEnds false m at cost = (cost ≡ []) × (s : ℕ) × (at ≡ s ∷ []) × EndsAt m.ends s []
SideEnds true m at cost = SubsetEnds true m.ends at cost

abbrev pub SideSteps : Bool → Graph → List ℕ → ℕ → List ℕ → List ℕ → Type 0
SideSteps false m at c cost to = (cost ≡ []) × (s t : ℕ) × (at ≡ s ∷ []) × (to ≡ t ∷ []) × StepsBy m.edges s c [] t
SideSteps true m at c cost to = SubsetSteps true m.edges at c cost to

-- the words of the machine, or all others
abbrev pub SideWords : Bool → Graph → Word → Type 0
SideWords false m w = WordsOf m w
SideWords true m w = IsWord w × (WordsOf m w → ⊥)

abbrev pub SideReads : Bool → Graph → Word → List ℕ → Type 0
SideReads others m w cost = RunsFrom (SideEnds others m) (SideSteps others m) (0 ∷ []) w cost

-- how many states the side has at most
abbrev pub side_size : Bool → Graph → ℕ
side_size false m = m.states
side_size true m = 2 ^ m.states

-- side `o` of machine n reads, at no cost, the words of machine m, or all others, and has as many states
pub record IsMeetSide (others : Bool) (m : Graph) (o : Bool) (n : Graph) : Type 0 where
  pub words : (w : Word) (cost : List ℕ) → SideReads o n w cost ↔ (SideWords others m w × (cost ≡ []))
  pub size : side_size o n ≡ side_size others m

pub side-first : (others : Bool) (m : Graph) → IsSideState others m (0 ∷ [])
side-first false m = (0, refl, m.started)
side-first true m = first-states m.states m.started

pub side-state : (others : Bool) (m : Graph) (at : List ℕ) (c : ℕ) (cost to : List ℕ) → SideSteps others m at c cost to → IsSideState others m to
side-state false m at c cost to h = (h.2, h.4, step_target m.states m.registers m.edges m.ends m.formed h.1 h.2 c [] h.5)
side-state true m at c cost to h = next-states m true at c cost to h

pub side-character : (others : Bool) (m : Graph) (at : List ℕ) (c : ℕ) (cost to : List ℕ) → SideSteps others m at c cost to → c ≤ greatest_character
side-character false m at c cost to h = step_character m.states m.registers m.edges m.ends m.formed h.1 h.2 c [] h.5
side-character true m at c cost to h = h.0

pub side-cost : (others : Bool) (m : Graph) (at : List ℕ) (c : ℕ) (cost to : List ℕ) → SideSteps others m at c cost to → IsCost 0 0 cost
side-cost false m at c cost to h = no-cost cost h.0
side-cost true m at c cost to h = step-cost true m.edges at c cost to h

pub side-end : (others : Bool) (m : Graph) (at cost : List ℕ) → SideEnds others m at cost → IsCost 0 0 cost
side-end false m at cost h = no-cost cost h.0
side-end true m at cost h = end-cost true m.ends at cost h

pub side-states : (others : Bool) (m : Graph) → AreAtMost (IsSideState others m) (side_size others m)
side-states false m = at_most-made (λ s. s ∷ []) (λ s. s < m.states) (IsSideState false m) m.states (λ at h. (h.0, h.2, sym h.1)) (at_most-below m.states)
side-states true m = sets_at_most m.states
