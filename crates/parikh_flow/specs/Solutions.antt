-- Solutions of the system of machines and rows, and hits.
use Rattle.std.specs.Prelude.{◌≡◌, ℕ, ◌+◌, ◌<◌, ℤ, pos, List, [], ◌∷◌, length, get_or, slice_index}
use Rattle.machine_core.specs.declared.graph.Graph.{Graph}
use Rattle.machine_core.specs.declared.run.Run.{Run}
use Rattle.search_hits.specs.Hits.{runs_total}
use Rattle.parikh_flow.specs.Counts.{size_of}
use Rattle.parikh_flow.specs.Balance.{AreBalanced}
use Rattle.parikh_flow.specs.Nets.{AreJoined}
use Rattle.parikh_flow.specs.Flows.{IsFlow}

-- the unknowns from `base` on have the counts as their values
pub record AreCountsAt (x : ℕ → ℤ) (base : ℕ) (m : Graph) (f : List ℕ) : Type 0 where
  pub size : length f ≡ size_of m
  pub values : (k : ℕ) → k < size_of m → x (base + k) ≡ pos (slice_index f k)

-- they are counts of the run
abbrev pub HasFlowAt : (ℕ → ℤ) → ℕ → Graph → Run ℕ → Type 0
HasFlowAt x base m run = (f : List ℕ) × AreCountsAt x base m f × IsFlow m run f

-- a run for each machine, whose counts are the values of the machine's unknowns
abbrev pub HaveFlowsAt : (ℕ → ℤ) → ℕ → List Graph → List (Run ℕ) → Type 0
HaveFlowsAt x base [] [] = Unit {0}
HaveFlowsAt x base [] (r ∷ rs) = ⊥
HaveFlowsAt x base (m ∷ ms) [] = ⊥
HaveFlowsAt x base (m ∷ ms) (r ∷ rs) = HasFlowAt x base m r × HaveFlowsAt x (base + size_of m) ms rs

-- for each machine the values of its unknowns are counts that balance and are joined
abbrev pub HaveJoinedCounts : (ℕ → ℤ) → ℕ → List Graph → Type 0
HaveJoinedCounts x base [] = Unit {0}
HaveJoinedCounts x base (m ∷ ms) =
    ((f : List ℕ) × AreCountsAt x base m f × AreBalanced m f × AreJoined m f) × HaveJoinedCounts x (base + size_of m) ms

-- x has the whole numbers, the totals of the runs at each register, and counts of the runs
pub record AreRunValues (x : ℕ → ℤ) (machines : List Graph) (registers : ℕ) (runs : List (Run ℕ)) (numbers : List ℤ) : Type 0 where
  pub integers : (k : ℕ) → k < length numbers → x k ≡ get_or numbers k (pos 0)
  pub totals : (k : ℕ) → k < registers → x (length numbers + k) ≡ pos (slice_index (runs_total registers runs) k)
  pub flows : HaveFlowsAt x (length numbers + registers) machines runs
