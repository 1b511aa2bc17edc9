-- A run of all machines in turn, cut into a run of each.
use Rattle.std.specs.Prelude.{◌≡◌, ℕ, ◌+◌, ◌⊎◌, List, [], ◌∷◌, ◌++◌, length, slice_get, Some}
use Rattle.sv_linear.specs.declared.row.Row.{Row}
use Rattle.machine_core.specs.Costs.{zeros}
use Rattle.machine_core.specs.Runs.{IsRun}
use Rattle.machine_core.specs.declared.graph.Graph.{Graph}
use Rattle.machine_core.specs.declared.run.Run.{Run}
use Rattle.search_hits.specs.declared.region.Region.{Region}
use Rattle.search_hits.specs.Hits.{AreRunsOf, runs_total, characters}
use Rattle.box_layers.specs.declared.layer.Layer.{Layer}
use Rattle.box_layers.specs.Layers.{layer, uppers_of, AreGoodTotals, LayerStep, LayerEnd}

-- a run of all machines in turn
abbrev pub IsRunOfAll : List Graph → List Row → Region → Run Layer → Type 0
IsRunOfAll machines rows region =
    IsRun (LayerEnd machines (uppers_of region) (AreGoodTotals rows region)) (LayerStep machines (uppers_of region) (AreGoodTotals rows region)) (layer 0 0 (zeros (length region.registers)))

-- a run of each machine: together they cost what is spent behind the last machine, and have all characters but the one that leads on from each machine
pub record IsCutInto (machines : List Graph) (registers : ℕ) (run : Run Layer) (runs : List (Run ℕ)) : Type 0 where
  pub each : AreRunsOf machines runs
  pub total : (p : Layer) → slice_get run.states (length run.word) ≡ Some p → runs_total registers runs ≡ p.spent
  pub size : characters runs + length machines ≡ length run.word

-- the run that has just begun
pub record IsOpened (run : Run ℕ) : Type 0 where
  pub word : run.word ≡ []
  pub states : run.states ≡ 0 ∷ []
  pub costs : run.costs ≡ []

-- the open run has one step more
pub record AddsStep (q : Layer) (c : ℕ) (k : List ℕ) (before now : Run ℕ) : Type 0 where
  pub word : now.word ≡ before.word ++ c ∷ []
  pub states : now.states ≡ before.states ++ q.state ∷ []
  pub costs : now.costs ≡ before.costs ++ k ∷ []

-- the open run has ended, and another one has begun
pub record BeginsNext (k : List ℕ) (runs more : List (Run ℕ)) (before now : Run ℕ) : Type 0 where
  pub ended : Run ℕ
  pub pushed : more ≡ runs ++ ended ∷ []
  pub word : ended.word ≡ before.word
  pub states : ended.states ≡ before.states
  pub costs : ended.costs ≡ before.costs
  pub last : ended.last ≡ k
  pub opened : IsOpened now

-- what a step from one layer to the next did to the runs that have ended and to the open one
abbrev pub CutsBy : Layer → Layer → ℕ → List ℕ → List (Run ℕ) → List (Run ℕ) → Run ℕ → Run ℕ → Type 0
CutsBy p q c k runs more before now =
    ((q.machine ≡ p.machine) × (more ≡ runs) × AddsStep q c k before now) ⊎ ((q.machine ≡ p.machine → ⊥) × BeginsNext k runs more before now)
