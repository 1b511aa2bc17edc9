-- Runs along listed edges.
use Rattle.std.specs.Prelude.{◌≡◌, ℕ, List, [], ◌∷◌, slice_get, Some}
use Rattle.machine_core.specs.declared.edge.Edge.{Edge}
use Rattle.machine_core.specs.declared.run.Run.{Run}
use Rattle.machine_core.specs.Moves.{Moves}
use Rattle.machine_core.specs.Edges.{move_of}

-- the edges at the listed places lead from `s` to `t` through the listed states, one on each character, at the listed costs. Edges may be alike, so a path may have several such lists
abbrev pub LeadsAlong : List Edge → ℕ → List ℕ → List ℕ → List ℕ → List (List ℕ) → ℕ → Type 0
LeadsAlong edges s [] [] [] [] t = s ≡ t
LeadsAlong edges s (p ∷ ps) (u ∷ us) (c ∷ word) (k ∷ costs) t =
    (e : Edge) × (slice_get edges p ≡ Some e) × (e.from ≡ s) × Moves c k u (move_of e) × LeadsAlong edges u ps us word costs t
LeadsAlong edges s ps us word costs t = ⊥

-- the run goes from state 0 along the edges at these places, wherever it stops
pub record IsRunAlong (edges : List Edge) (places : List ℕ) (run : Run ℕ) : Type 0 where
  pub after : List ℕ
  pub stop : ℕ
  pub states : run.states ≡ 0 ∷ after
  pub leads : LeadsAlong edges 0 places after run.word run.costs stop
