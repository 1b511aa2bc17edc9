-- Runs of a machine, with the states that they go through and the cost of each step.
use Rattle.std.specs.Prelude.{◌≡◌, ℕ, List, [], ◌∷◌}
use Rattle.machine_core.specs.declared.run.Run.{Run}
use Rattle.machine_core.specs.Costs.{total_of}

module _ {S : Type 0} (steps : S → ℕ → List ℕ → S → Type 0) where
  -- steps lead from `s` through the listed states, the last of which is `t`: one state, one character and one cost for each step
  abbrev pub IsPath : S → List S → List ℕ → List (List ℕ) → S → Type 0
  IsPath s [] [] [] t = s ≡ t
  IsPath s (u ∷ us) (c ∷ word) (k ∷ costs) t = steps s c k u × IsPath u us word costs t
  IsPath s us word costs t = ⊥

-- a run of the machine: it begins in the first state, each step is one of the machine's, and the word may end where it stops, at the run's last cost
pub record IsRun {S : Type 0} (ends : S → List ℕ → Type 0) (steps : S → ℕ → List ℕ → S → Type 0) (first : S) (run : Run S) : Type 0 where
  pub after : List S
  pub stop : S
  pub states : run.states ≡ first ∷ after
  pub path : IsPath steps first after run.word run.costs stop
  pub last : ends stop run.last

-- what a run costs
abbrev pub run_total : {S : Type 0} → Run S → List ℕ
run_total run = total_of run.costs run.last
