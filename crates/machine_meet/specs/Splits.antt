-- A run of a product, split into runs of its parts.
use Rattle.std.specs.Prelude.{◌≡◌, ℕ, suc, ◌↔◌, ⊤, List, [], ◌∷◌, length, reverse, slice_get, Some, None, Any, Option, MatchOption}
use Rattle.machine_core.specs.declared.run.Run.{Run}
use Rattle.machine_core.specs.Costs.{add_costs, sum_costs}
use Rattle.machine_core.specs.Runs.{IsRun}

-- one cost out of each list
abbrev pub Picks : List (List (List ℕ)) → List (List ℕ) → Type 0
Picks [] [] = ⊤
Picks [] (k ∷ ks) = ⊥
Picks (o ∷ os) [] = ⊥
Picks (o ∷ os) (k ∷ ks) = Any (λ e. e ≡ k) o × Picks os ks

-- one cost out of each list, which add up to `want`; none where no such costs do
abbrev pub IsPick : List (List (List ℕ)) → List ℕ → Option (List (List ℕ)) → Type 0
IsPick options want picked = MatchOption picked
    ((ks : List (List ℕ)) → Picks options ks → sum_costs (length want) ks ≡ want → ⊥)
    (λ ks. Picks options ks × (sum_costs (length want) ks ≡ want))

-- what was picked, the other way round
abbrev pub turned : {X : Type 0} → Option (List X) → Option (List X)
turned None = None
turned (Some xs) = Some (reverse xs)

-- each cost of the lists has one number for each of so many registers
abbrev pub AreCostsWide : ℕ → List (List (List ℕ)) → Type 0
AreCostsWide width [] = ⊤
AreCostsWide width (o ∷ os) = ((k : List ℕ) → Any (λ e. e ≡ k) o → length k ≡ width) × AreCostsWide width os

-- what is left of `whole` without `part`
abbrev pub IsRest : List ℕ → List ℕ → List ℕ → Type 0
IsRest whole part rest = (length rest ≡ length whole) × (add_costs part rest ≡ whole)

-- what is left, or none where `part` is the greater one at some register
abbrev pub IsLeft : List ℕ → List ℕ → Option (List ℕ) → Type 0
IsLeft whole part left = MatchOption left ((rest : List ℕ) → IsRest whole part rest → ⊥) (IsRest whole part)

-- an end as a step that stays where it is
abbrev pub as_step : {P S : Type 0} → (P → S → List ℕ → Type 0) → P → S → ℕ → List ℕ → S → Type 0
as_step ends p s c k t = ends p s k

module _ {P S : Type 0} (steps : P → S → ℕ → List ℕ → S → Type 0) where
  -- each list has the costs at which its part steps on the character, from its state to the state that it shall reach
  pub record AreOptions (parts : List P) (from : List S) (c : ℕ) (to : List S) (options : List (List (List ℕ))) : Type 0 where
    pub count : length options ≡ length parts
    pub each : (j : ℕ) (p : P) (s t : S) (o : List (List ℕ))
        → slice_get parts j ≡ Some p → slice_get from j ≡ Some s → slice_get to j ≡ Some t → slice_get options j ≡ Some o
        → (k : List ℕ) → steps p s c k t ↔ Any (λ e. e ≡ k) o

  -- each part steps on the character at its cost, from its state to the state that it shall reach
  pub record AreSteps (parts : List P) (from : List S) (c : ℕ) (to : List S) (costs : List (List ℕ)) : Type 0 where
    pub count : length costs ≡ length parts
    pub each : (j : ℕ) (p : P) (s t : S) (k : List ℕ)
        → slice_get parts j ≡ Some p → slice_get from j ≡ Some s → slice_get to j ≡ Some t → slice_get costs j ≡ Some k
        → steps p s c k t

  -- these costs are those of the parts at step `at` of a run of the product, and add up to what the step costs
  pub record IsSplitRow (width : ℕ) (parts : List P) (run : Run (List S)) (at : ℕ) (row : List (List ℕ)) : Type 0 where
    pub count : length row ≡ length parts
    pub steps_are : (from to : List S) (c : ℕ) → slice_get run.states at ≡ Some from → slice_get run.states (suc at) ≡ Some to
        → slice_get run.word at ≡ Some c → AreSteps parts from c to row
    pub sum : (cost : List ℕ) → slice_get run.costs at ≡ Some cost → sum_costs width row ≡ cost

-- the elements of the rows at this place, from the first row on
pub record IsColumn {X : Type 0} (at : ℕ) (rows : List (List X)) (column : List X) : Type 0 where
  pub count : length column ≡ length rows
  pub each : (i : ℕ) (row : List X) (x : X) → slice_get rows i ≡ Some row → slice_get column i ≡ Some x → slice_get row at ≡ Some x

-- one run of each part, in the order of the parts, and each on this word
abbrev pub ArePartRuns : {P S : Type 0} → (P → S → List ℕ → Type 0) → (P → S → ℕ → List ℕ → S → Type 0) → (P → S) → List P → List ℕ → List (Run S) → Type 0
ArePartRuns ends steps first [] word [] = ⊤
ArePartRuns ends steps first [] word (r ∷ rs) = ⊥
ArePartRuns ends steps first (p ∷ ps) word [] = ⊥
ArePartRuns ends steps first (p ∷ ps) word (r ∷ rs) = IsRun (ends p) (steps p) (first p) r × (r.word ≡ word) × ArePartRuns ends steps first ps word rs
