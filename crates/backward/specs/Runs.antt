-- Runs of the machines of a family, one of each.
use Rattle.std.specs.Prelude.{ℕ, zero, suc, List, [], ◌∷◌, Option, Some, None, ⊤}
use Rattle.sv_terms.specs.Language.{Word}
use Rattle.machine_core.specs.Costs.{add_costs, zeros}
use Rattle.machine_core.specs.Graphs.{IsRunOf}
use Rattle.machine_core.specs.Runs.{run_total}
use Rattle.machine_core.specs.declared.run.Run.{Run}
use Rattle.backward.specs.Families.{Family}

-- runs by the numbers of their variables; a variable that is carried has none
abbrev pub Runs : Type 0
Runs = List (Option (Run ℕ))

-- a run of each machine
abbrev pub AreRuns : Family → Runs → Type 0
AreRuns [] [] = ⊤
AreRuns (None ∷ ms) (None ∷ rs) = AreRuns ms rs
AreRuns (Some m ∷ ms) (Some run ∷ rs) = IsRunOf m run × AreRuns ms rs
AreRuns _ _ = ⊥

-- the words of the runs, by number; a variable without a run has the empty word
abbrev pub run_words : Runs → ℕ → Word
run_words [] v = []
run_words (None ∷ rs) zero = []
run_words (Some run ∷ rs) zero = run.word
run_words (o ∷ rs) (suc v) = run_words rs v

-- what the runs cost together
abbrev pub run_totals : ℕ → Runs → List ℕ
run_totals width [] = zeros width
run_totals width (None ∷ rs) = run_totals width rs
run_totals width (Some run ∷ rs) = add_costs (run_total run) (run_totals width rs)
