-- The language of a machine: pairs of a word and a cost (cost-enriched automata, Chen et al., ATVA 2020; here no cost is negative, and an end has a cost too).
-- A machine is given by two relations alone: in which states a word may end at which cost, and which steps lead from a state on a character at which cost.
use Rattle.std.specs.Prelude.{◌≡◌, ℕ, ◌↔◌, List, [], ◌∷◌}
use Rattle.machine_core.specs.Costs.{add_costs, zeros}

module _ {S : Type 0} (ends : S → List ℕ → Type 0) (steps : S → ℕ → List ℕ → S → Type 0) where
  -- some run from this state reads the word, and its costs add up to this one
  abbrev pub RunsFrom : S → List ℕ → List ℕ → Type 0
  RunsFrom at [] cost = ends at cost
  RunsFrom at (c ∷ word) cost = (step : List ℕ) × (to : S) × (rest : List ℕ)
      × steps at c step to × RunsFrom to word rest × (cost ≡ add_costs step rest)

-- the pairs from one state of a machine are those from a state of another
abbrev pub SameRuns : {S T : Type 0} (ends : S → List ℕ → Type 0) (steps : S → ℕ → List ℕ → S → Type 0) (s : S)
    (ends' : T → List ℕ → Type 0) (steps' : T → ℕ → List ℕ → T → Type 0) (t : T) → Type 0
SameRuns ends steps s ends' steps' t = (word cost : List ℕ) → RunsFrom ends steps s word cost ↔ RunsFrom ends' steps' t word cost

-- a state that some word leads to
pub data IsReached {S : Type 0} (steps : S → ℕ → List ℕ → S → Type 0) (first : S) : S → Type 0 where
  here : IsReached steps first first
  next : {s t : S} {c : ℕ} {step : List ℕ} → IsReached steps first s → steps s c step t → IsReached steps first t

-- ends of another kind: a word may end in `t` alone, at no cost; the pairs with these ends are the words that lead to `t`, with what their steps cost
abbrev pub StopsAt : {S : Type 0} → ℕ → S → S → List ℕ → Type 0
StopsAt width t s cost = (s ≡ t) × (cost ≡ zeros width)
