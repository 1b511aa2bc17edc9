-- Runs of the machines of a family, put to the numbers of their variables.
use Rattle.std.specs.Prelude.{◌≡◌, ℕ, List, [], ◌∷◌, Some, None, ⊤}
use Rattle.machine_core.specs.declared.run.Run.{Run}
use Rattle.backward.specs.Families.{Family}
use Rattle.backward.specs.Runs.{Runs}

-- the runs, in their order, stand at the places of the machines
abbrev pub IsSpread : Family → List (Run ℕ) → Runs → Type 0
IsSpread [] [] [] = ⊤
IsSpread (None ∷ ms) runs (None ∷ rs) = IsSpread ms runs rs
IsSpread (Some m ∷ ms) (run ∷ runs) (Some other ∷ rs) = (other ≡ run) × IsSpread ms runs rs
IsSpread _ _ _ = ⊥
