-- What shows that words of machines are too long together.
use Rattle.std.specs.Prelude.{◌≡◌, ◌≢◌, ℕ, ℤ, pos, ◌+◌, ◌<ℤ◌, ◌≤◌, List, [], ◌∷◌, length, Bool, false, Some, None}
use Rattle.std.specs.List.{AllZip}
use Rattle.sv_linear.specs.declared.row.Row.{Row}
use Rattle.machine_core.specs.Graphs.{Accepts, IsRunOf}
use Rattle.machine_core.specs.declared.graph.Graph.{Graph}
use Rattle.machine_core.specs.declared.run.Run.{Run}
use Rattle.farkas_check.specs.declared.system.System.{System}
use Rattle.lia_branch.specs.EvidenceHolds.{Holds}
use Rattle.lia_branch.specs.Outcomes.{IsSolution}
use Rattle.farkas_check.specs.Fitting.{IsAccepted}
use Rattle.parikh_flow.specs.Rows.{IsSystemOf}
use Rattle.leaf_solve.specs.declared.long_shown.Beyond.{Beyond}
use Rattle.leaf_solve.specs.declared.long_shown.Beyond.TheVariants.{Values, GaveUp}
use Rattle.leaf_solve.specs.declared.long_shown.LongShown.{LongShown}
use Rattle.leaf_solve.specs.declared.long_shown.LongShown.TheVariants.{Words, Rows}

-- some run of the machine
abbrev pub HasRun : Graph → Type 0
HasRun m = (run : Run ℕ) × IsRunOf m run

-- a word of the machine that no other is shorter than
pub record IsShortestWord (m : Graph) (word : List ℕ) : Type 0 where
  pub cost : List ℕ
  pub accepted : Accepts m word cost
  pub least : (other cost : List ℕ) → Accepts m other cost → length word ≤ length other

-- how many characters words have together
abbrev pub letters : List (List ℕ) → ℕ
letters [] = 0
letters (w ∷ ws) = length w + letters ws

-- a row that holds whatever the reach is: a solution of the system without the row for reach; or evidence that the solver gave up on it, where the region needn't hold every solution
abbrev pub IsBeyond : List Graph → ℕ → ℕ → List Row → Bool → Beyond → Type 0
IsBeyond machines registers integers rows small (Values xs) = (system : System) × IsSystemOf machines integers registers rows None system × IsSolution system xs
IsBeyond machines registers integers rows small (GaveUp system evidence) = (small ≡ false) × IsSystemOf machines integers registers rows None system × Holds system evidence

-- without rows, shortest words of the machines, which have together more characters than the reach; with rows, and some machine, a tree that closes the system with the row for reach, and what lies beyond
abbrev pub IsLongShown : List Graph → ℕ → ℕ → List Row → Bool → ℤ → LongShown → Type 0
IsLongShown machines registers integers rows small reach (Words ws) =
    (rows ≡ []) × AllZip IsShortestWord machines ws × (reach <ℤ pos (letters ws))
IsLongShown machines registers integers rows small reach (Rows system tree beyond) =
    (rows ≢ []) × (machines ≢ []) × (n : ℕ) × (reach ≡ pos n) × IsSystemOf machines integers registers rows (Some n) system × IsAccepted system tree
    × IsBeyond machines registers integers rows small beyond
