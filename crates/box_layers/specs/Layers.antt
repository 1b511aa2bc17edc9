-- All machines in turn as one machine: its words are those of runs of all machines, with one character more for each.
use Rattle.std.specs.Prelude.{◌≡◌, ℕ, ℤ, pos, suc, ◌+◌, ◌*◌, ◌<◌, ◌≤◌, ◌⊎◌, List, length, map, slice_get, Some}
use Rattle.std.specs.List.{AllZip, AllByRecursion}
use Rattle.sv_linear.specs.Rows.{MeetsRow, unknowns_of}
use Rattle.sv_linear.specs.declared.row.Row.{Row}
use Rattle.machine_core.specs.Costs.{add_costs, zeros, top_by}
use Rattle.machine_core.specs.Edges.{EndsAt, StepsBy}
use Rattle.machine_core.specs.Graphs.{graph_top}
use Rattle.machine_core.specs.declared.graph.Graph.{Graph}
use Rattle.search_hits.specs.declared.region.Region.{Region}
use Rattle.search_hits.specs.Regions.{AreWithin, whole_side, register_points, greatest_states}
use Rattle.box_layers.specs.declared.layer.Layer.{Layer}

abbrev pub layer : ℕ → ℕ → List ℕ → Layer
layer machine state spent = record { machine = machine; state = state; spent = spent }

-- each number is at most its greatest
abbrev pub AreWithinGreatest : List ℕ → List ℕ → Type 0
AreWithinGreatest = AllZip (λ v u. v ≤ u)

-- the greatest totals of a region
abbrev pub uppers_of : Region → List ℕ
uppers_of region = map (λ s. s.1) region.registers

-- whole numbers of the region that meet the rows with these totals
pub record AreGood (rows : List Row) (region : Region) (spent : List ℕ) (numbers : List ℤ) : Type 0 where
  pub within : AreWithin region.integers numbers
  pub meets : AllByRecursion (MeetsRow (unknowns_of numbers spent)) rows

-- these totals lie in the region, and some whole numbers of it meet the rows with them
abbrev pub AreGoodTotals : List Row → Region → List ℕ → Type 0
AreGoodTotals rows region spent = AreWithin (map whole_side region.registers) (map pos spent) × (numbers : List ℤ) × AreGood rows region spent numbers

module _ (machines : List Graph) (uppers : List ℕ) (good : List ℕ → Type 0) where
  -- a step of the machine at work, or from one of its ends to the start of the next machine
  abbrev pub Turns : Graph → Layer → ℕ → List ℕ → Layer → Type 0
  Turns m p c k q = ((q.machine ≡ p.machine) × StepsBy m.edges p.state c k q.state) ⊎ ((q.machine ≡ suc p.machine) × (q.state ≡ 0) × (c ≡ 0) × EndsAt m.ends p.state k)

  pub record LayerStep (p : Layer) (c : ℕ) (cost : List ℕ) (q : Layer) : Type 0 where
    pub graph : Graph
    pub at_work : slice_get machines p.machine ≡ Some graph
    pub paid : q.spent ≡ add_costs p.spent cost
    pub below : AreWithinGreatest q.spent uppers
    pub turn : Turns graph p c cost q

  -- a word ends behind the last machine, where the totals are good
  abbrev pub LayerEnd : Layer → List ℕ → Type 0
  LayerEnd p cost = (cost ≡ zeros (length uppers)) × (p.machine ≡ length machines) × good p.spent

  pub record IsLayerOf (p : Layer) : Type 0 where
    pub inside : p.machine ≤ length machines
    pub state : (m : Graph) → slice_get machines p.machine ≡ Some m → p.state < m.states
    pub last : p.machine ≡ length machines → p.state ≡ 0
    pub below : AreWithinGreatest p.spent uppers

-- no step costs more at a register
abbrev pub layers_top : List Graph → ℕ
layers_top = top_by graph_top

-- there are no more layers
abbrev pub layers_size : List Graph → Region → ℕ
layers_size machines region = (greatest_states machines * length machines + 1) * register_points region.registers
