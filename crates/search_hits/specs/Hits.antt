-- Runs and whole numbers that meet rows together. The unknowns of the rows are the numbers, and then one for each register: what the runs cost there.
use Rattle.std.specs.Prelude.{◌≡◌, ℕ, ℤ, ◌+◌, List, [], ◌∷◌, length, All}
use Rattle.std.specs.List.{AllZip}
use Rattle.sv_linear.specs.Rows.{MeetsRows}
use Rattle.sv_linear.specs.declared.row.Row.{Row}
use Rattle.machine_core.specs.Costs.{add_costs, zeros}
use Rattle.machine_core.specs.Runs.{run_total}
use Rattle.machine_core.specs.Graphs.{IsRunOf}
use Rattle.machine_core.specs.declared.graph.Graph.{Graph}
use Rattle.machine_core.specs.declared.run.Run.{Run}

-- one run of each machine, in their order
abbrev pub AreRunsOf : List Graph → List (Run ℕ) → Type 0
AreRunsOf = AllZip IsRunOf

-- what the runs cost together, at each of so many registers
abbrev pub runs_total : ℕ → List (Run ℕ) → List ℕ
runs_total registers [] = zeros registers
runs_total registers (r ∷ rs) = add_costs (run_total r) (runs_total registers rs)

-- how many characters their words have together
abbrev pub characters : List (Run ℕ) → ℕ
characters [] = 0
characters (r ∷ rs) = length r.word + characters rs

-- each machine has so many registers
abbrev pub HaveRegisters : ℕ → List Graph → Type 0
HaveRegisters registers = All (λ m. m.registers ≡ registers)

-- runs of all machines, and so many whole numbers, that meet the rows with what the runs cost at so many registers
pub record IsHit (machines : List Graph) (registers integers : ℕ) (rows : List Row) (runs : List (Run ℕ)) (numbers : List ℤ) : Type 0 where
  pub each : AreRunsOf machines runs
  pub meets : MeetsRows integers rows numbers (runs_total registers runs)
