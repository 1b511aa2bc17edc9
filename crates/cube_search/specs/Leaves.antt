-- The machines of a leaf, cut down to what lies on runs.
use Rattle.std.specs.Prelude.{◌≡◌, ◌↔◌, ℕ, ◌<◌, ◌≤◌, List, [], ◌∷◌, ⊤}
use Rattle.machine_core.specs.declared.graph.Graph.{Graph}
use Rattle.machine_core.specs.declared.run.Run.{Run}
use Rattle.machine_core.specs.Graphs.{Accepts, IsRunOf}
use Rattle.trim_search.specs.Lifted.{IsLift}
use Rattle.trim_search.specs.Useful.{IsOnRun}
use Rattle.trim_search.specs.declared.built.Built.{Built}

abbrev pub machine_of : Built ℕ → Graph
machine_of small = small.machine

-- a machine cut down to what lies on runs, and names by which a run of it is one of the machine itself
pub record IsTrim (m : Graph) (small : Built ℕ) : Type 0 where
  pub language : (word cost : List ℕ) → Accepts small.machine word cost ↔ Accepts m word cost
  pub registers : small.machine.registers ≡ m.registers
  pub states : small.machine.states ≤ m.states
  pub used : (s : ℕ) → 0 < s → s < small.machine.states → IsOnRun small.machine s
  pub lifts : (run lifted : Run ℕ) → IsRunOf small.machine run → IsLift small.names run lifted → IsRunOf m lifted

-- the runs over the states that the machines had before they were cut down
abbrev pub AreLifted : List (Built ℕ) → List (Run ℕ) → List (Run ℕ) → Type 0
AreLifted [] [] [] = ⊤
AreLifted (t ∷ ts) (run ∷ runs) (other ∷ others) = IsLift t.names run other × AreLifted ts runs others
AreLifted _ _ _ = ⊥
