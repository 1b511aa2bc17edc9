-- A run of a pre-image taken back, step by step: what the transducer has written so far, and the target's path on it.
use Rattle.std.specs.Prelude.{◌≡◌, ℕ, List, Contains}
use Rattle.machine_core.specs.declared.graph.Graph.{Graph}
use Rattle.machine_core.specs.Costs.{add_costs, zeros, total_of}
use Rattle.machine_core.specs.Edges.{EndsAt, StepsBy}
use Rattle.machine_core.specs.Runs.{IsPath}
use Rattle.sv_terms.specs.Language.{Word}
use Rattle.sv_terms.specs.Transduction.{Transduces, Leads}
use Rattle.sv_terms.specs.declared.transducer.TransEdge.{TransEdge}
use Rattle.sv_terms.specs.declared.transducer.Transducer.{Transducer}
use Rattle.pre_image.specs.Lifts.{IsWay}

-- a step: an edge that was taken, what it wrote, and the target's way along it at what the step costs
pub record IsLiftedStep (t : Transducer) (m : Graph) (from : ℕ × ℕ) (c : ℕ) (cost : List ℕ) (to : ℕ × ℕ) (word : Word) (states : List ℕ) (costs : List (List ℕ)) : Type 0 where
  pub edge : TransEdge
  pub listed : Contains t.edges edge
  pub writes : Transduces from.0 c word edge
  pub leads : edge.to ≡ to.0
  pub way : IsWay m from.1 word to.1 cost states costs

-- an end: what is written there, the target's way along it, and an end of the target; way and end cost what the run's end costs
pub record IsLiftedEnd (t : Transducer) (m : Graph) (at : ℕ × ℕ) (cost : List ℕ) (word : Word) (states : List ℕ) (costs : List (List ℕ)) (final : List ℕ) : Type 0 where
  pub stop : ℕ
  pub paid : List ℕ
  pub end : Contains t.ends (at.0, word)
  pub way : IsWay m at.1 word stop paid states costs
  pub last : EndsAt m.ends stop final
  pub sum : add_costs paid final ≡ cost

-- so far: the transducer has read and written these words, and the target has gone along what was written, at this cost in all
pub record IsLifting (t : Transducer) (m : Graph) (at : ℕ × ℕ) (read written : Word) (states : List ℕ) (costs : List (List ℕ)) (cost : List ℕ) : Type 0 where
  pub writes : Leads t t.start read written at.0
  pub path : IsPath (StepsBy m.edges) 0 states written costs at.1
  pub total : total_of costs (zeros m.registers) ≡ cost
