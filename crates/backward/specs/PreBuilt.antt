-- The pre-image of a machine under a transducer, as a machine with listed edges.
use Rattle.std.specs.Prelude.{ℕ, ◌<◌, ◌^◌, ◌≡◌, ◌≤◌, ◌+◌, ◌*◌, ◌↔◌, List}
use Rattle.machine_core.specs.declared.graph.Graph.{Graph}
use Rattle.machine_core.specs.Graphs.{Accepts, graph_top}
use Rattle.sv_terms.specs.declared.transducer.Transducer.{Transducer}
use Rattle.pre_image.specs.PreImages.{Precedes, pre_top}
use Rattle.machine_core.specs.declared.run.Run.{Run}
use Rattle.machine_core.specs.Graphs.{IsRunOf}
use Rattle.machine_core.specs.Runs.{IsRun}
use Rattle.trim_search.specs.Lifted.{IsLift}
use Rattle.pre_image.specs.PreImages.{PreEnds, PreSteps}
use Rattle.backward.specs.declared.through.PreBuilt.{PreBuilt}
use Rattle.backward.specs.Meetings.{IsCostWithin}
use Rattle.sv_terms.specs.Transduction.{WritesWithin, IsFormed}

pub record IsPreImage (t : Transducer) (target built : Graph) : Type 0 where
  pub language : (word cost : List ℕ) → Accepts built word cost ↔ Precedes t target word cost
  pub registers : built.registers ≡ target.registers
  pub states : built.states ≤ t.states * target.states
  pub top : graph_top built ≤ pre_top t target
  pub within : (m e register slope base : ℕ) → WritesWithin t (λ n. m * n + e) → IsCostWithin target register slope base → IsCostWithin built register (slope * m) (slope * e + base)

-- the pre-image, and names by which a run of it is one of the pairs of states
pub record IsPreKept (t : Transducer) (target : Graph) (before : PreBuilt) : Type 0 where
  pub formed : IsFormed t
  pub fits : pre_top t target < 2 ^ 64
  pub is : IsPreImage t target before.built.machine
  pub lifts : (run : Run ℕ) (lifted : Run (ℕ × ℕ)) → IsRunOf before.built.machine run → IsLift before.built.names run lifted
      → IsRun (PreEnds t target) (PreSteps t target) (t.start, 0) lifted
