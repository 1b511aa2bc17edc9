-- What is shown of a leaf of a flat cube that is left open.
use Rattle.std.specs.Prelude.{◌≡◌, ◌↔◌, ℕ, pos, ◌⊎◌, Bool, IsTrue, List, length}
use Rattle.machine_core.specs.declared.graph.Graph.{Graph}
use Rattle.farkas_check.specs.declared.system.System.{System}
use Rattle.lia_branch.specs.EvidenceHolds.{Holds}
use Rattle.lia_branch.specs.declared.evidence.Evidence.{Evidence}
use Rattle.parikh_flow.specs.Rows.{IsSystemOf}
use Rattle.leaf_solve.specs.Answers.{row_reach}
use Rattle.leaf_solve.specs.Longs.{IsLongShown}
use Rattle.leaf_solve.specs.declared.long_shown.LongShown.{LongShown}
use Rattle.cube_bounds.specs.Growth.{reach}
use Rattle.cube_bounds.specs.Sides.{IsSmall}
use Rattle.flat_cubes.specs.declared.flat.Flat.{Flat}

-- the solver gave up on the system of the machines and the rows of the cube, with the row for reach where there is a machine; the evidence holds for it
pub record HasGivenUp (flat : Flat) (machines : List Graph) (system : System) (evidence : Evidence) : Type 0 where
  pub is_system : (n : ℕ) × (reach flat ≡ pos n) × IsSystemOf machines (length flat.integers) (length flat.registers) flat.rows (row_reach machines n) system
  pub evidence_holds : Holds system evidence

-- what shows that all words of the machines that meet the rows have together more characters than are within reach
abbrev pub IsLongFor : Flat → List Graph → LongShown → Type 0
IsLongFor flat machines shown = (small : Bool) × (IsTrue small ↔ IsSmall flat)
    × IsLongShown machines (length flat.registers) (length flat.integers) flat.rows small (reach flat) shown

-- evidence, or what shows that the words are too long, of a leaf
abbrev pub IsLeftOpen : Flat → List Graph → Type 0
IsLeftOpen flat machines = ((system : System) × (evidence : Evidence) × HasGivenUp flat machines system evidence) ⊎ ((shown : LongShown) × IsLongFor flat machines shown)
