-- What runs cost at most at one register, in the number of their characters.
use Rattle.std.specs.Prelude.{◌≡◌, ℕ, ◌≤◌, ◌+◌, ◌*◌, List, [], ◌∷◌, length, slice_index, refl}
use Rattle.std.proofs.Common.{arith, sym, subst}
use Rattle.machine_core.specs.Costs.{zeros}
use Rattle.machine_core.specs.CostLaws.{add_costs-zeros, add_costs-most, zeros-entry}
use Rattle.machine_core.specs.Language.{RunsFrom, StopsAt}

-- each run of n characters from a state costs at most `slope * n + base` at this register
abbrev pub RunsWithin : {S : Type 0} → (S → Type 0) → (S → List ℕ → Type 0) → (S → ℕ → List ℕ → S → Type 0) → ℕ → ℕ → ℕ → Type 0
RunsWithin {S} is_state ends steps register slope base = (s : S) (word cost : List ℕ) → is_state s → RunsFrom ends steps s word cost
    → slice_index cost register ≤ slope * length word + base

-- so does each path between two states, whether the word may end there or not
abbrev pub PathsWithin : {S : Type 0} → (S → Type 0) → ℕ → (S → ℕ → List ℕ → S → Type 0) → ℕ → ℕ → ℕ → Type 0
PathsWithin {S} is_state width steps register slope base = (t : S) → RunsWithin is_state (StopsAt width t) steps register slope base

-- a step costs at most slope and base together
pub step_within : {S : Type 0} (is_state : S → Type 0) (width : ℕ) (steps : S → ℕ → List ℕ → S → Type 0) (register slope base : ℕ)
    → PathsWithin is_state width steps register slope base
    → (s t : S) (c : ℕ) (cost : List ℕ) → is_state s → length cost ≡ width → steps s c cost t → slice_index cost register ≤ slope + base
step_within is_state width steps register slope base h s t c cost ok wide step =
    let r = h t s (c ∷ []) cost ok (cost, t, zeros width, step, (refl, refl), sym (add_costs-zeros cost width wide)) in omega arith

-- an end costs at most the base
pub end_within : {S : Type 0} (is_state : S → Type 0) (ends : S → List ℕ → Type 0) (steps : S → ℕ → List ℕ → S → Type 0) (register slope base : ℕ)
    → RunsWithin is_state ends steps register slope base
    → (s : S) (cost : List ℕ) → is_state s → ends s cost → slice_index cost register ≤ base
end_within is_state ends steps register slope base h s cost ok e = let r = h s [] cost ok e in omega arith

-- a bound at each step and one at each end give a bound on runs and on paths
module _ {S : Type 0} (is_state : S → Type 0) (steps : S → ℕ → List ℕ → S → Type 0) (register slope : ℕ)
    (step_is_state : (s t : S) (c : ℕ) (cost : List ℕ) → is_state s → steps s c cost t → is_state t)
    (step_most : (s t : S) (c : ℕ) (cost : List ℕ) → is_state s → steps s c cost t → slice_index cost register ≤ slope) where
  pub runs_from_steps : (ends : S → List ℕ → Type 0) (base : ℕ) → ((s : S) (cost : List ℕ) → is_state s → ends s cost → slice_index cost register ≤ base)
      → RunsWithin is_state ends steps register slope base
  runs_from_steps ends base end_most s [] cost ok r = let e = end_most s cost ok r in omega arith
  runs_from_steps ends base end_most s (c ∷ word) cost ok r =
      let here = step_most s r.1 c r.0 ok r.3 in
      let rest = runs_from_steps ends base end_most r.1 word r.2 (step_is_state s r.1 c r.0 ok r.3) r.4 in
      let sum = subst (λ l. slice_index l register ≤ slice_index r.0 register + slice_index r.2 register) (sym r.5) (add_costs-most r.0 r.2 register) in
      omega arith

  pub paths_from_steps : (width : ℕ) → PathsWithin is_state width steps register slope 0
  paths_from_steps width t = runs_from_steps (StopsAt width t) 0 stop
    where
      stop : (s : S) (cost : List ℕ) → is_state s → StopsAt width t s cost → slice_index cost register ≤ 0
      stop s cost ok e = let z = zeros-entry width register in subst (λ l. slice_index l register ≤ 0) (sym e.1) (omega arith)

-- where no step and no end costs anything, no run and no path does
module _ {S : Type 0} (is_state : S → Type 0) (width : ℕ) (steps : S → ℕ → List ℕ → S → Type 0) (register : ℕ)
    (step_is_state : (s t : S) (c : ℕ) (cost : List ℕ) → is_state s → steps s c cost t → is_state t)
    (free_step : (s t : S) (c : ℕ) (cost : List ℕ) → is_state s → steps s c cost t → cost ≡ zeros width) where
  none_there : (cost : List ℕ) → cost ≡ zeros width → slice_index cost register ≤ 0
  none_there cost e = let z = zeros-entry width register in subst (λ l. slice_index l register ≤ 0) (sym e) (omega arith)

  pub free_runs : (ends : S → List ℕ → Type 0) → ((s : S) (cost : List ℕ) → is_state s → ends s cost → cost ≡ zeros width)
      → RunsWithin is_state ends steps register 0 0
  free_runs ends free_end = runs_from_steps is_state steps register 0 step_is_state (λ s t c cost h m. none_there cost (free_step s t c cost h m))
      ends 0 (λ s cost h e. none_there cost (free_end s cost h e))

  pub free_paths : PathsWithin is_state width steps register 0 0
  free_paths = paths_from_steps is_state steps register 0 step_is_state (λ s t c cost h m. none_there cost (free_step s t c cost h m)) width
