-- The language, the runs and the greatest cost of a machine whose edges are listed.
use Rattle.std.specs.Prelude.{ℕ, ◌<◌, List}
use Rattle.machine_core.specs.declared.graph.Graph.{Graph}
use Rattle.machine_core.specs.declared.run.Run.{Run}
use Rattle.machine_core.specs.Language.{RunsFrom}
use Rattle.machine_core.specs.Runs.{IsRun}
use Rattle.machine_core.specs.RunBounds.{RunsWithin, PathsWithin}
use Rattle.machine_core.specs.Edges.{EndsAt, StepsBy, listed_top}

-- some run reads the word, and its costs add up to this one
abbrev pub Accepts : Graph → List ℕ → List ℕ → Type 0
Accepts m word cost = RunsFrom (EndsAt m.ends) (StepsBy m.edges) 0 word cost

-- a run of this machine
abbrev pub IsRunOf : Graph → Run ℕ → Type 0
IsRunOf m run = IsRun (EndsAt m.ends) (StepsBy m.edges) 0 run

-- the greatest cost of an edge or an end at a register
abbrev pub graph_top : Graph → ℕ
graph_top m = listed_top m.edges m.ends

-- each run of n characters from a state costs at most `slope * n + base` at this register
abbrev pub GraphRunsWithin : Graph → ℕ → ℕ → ℕ → Type 0
GraphRunsWithin m register slope base = RunsWithin (λ s. s < m.states) (EndsAt m.ends) (StepsBy m.edges) register slope base

-- so does each path between two states
abbrev pub GraphPathsWithin : Graph → ℕ → ℕ → ℕ → Type 0
GraphPathsWithin m register slope base = PathsWithin (λ s. s < m.states) m.registers (StepsBy m.edges) register slope base
