-- Sets of states that show that a net isn't joined.
use Rattle.std.specs.Prelude.{◌≡◌, ℕ, ℤ, pos, ◌<ℤ◌, ◌<◌, ◌↔◌, List, Some, None, Option, slice_get, slice_index_or, All, Contains}
use Rattle.std.specs.List.Sorted.{IsStrictlyIncreasing}
use Rattle.farkas_check.specs.Systems.{Reached, Joined}
use Rattle.farkas_check.specs.declared.net.Net.{Net}
use Rattle.farkas_check.specs.declared.net.NetEdge.{NetEdge}

-- the edges name unknowns below n, and states of the net, as the start does
pub record IsNetWithin (n : ℕ) (net : Net) : Type 0 where
  pub start : net.start < net.states
  pub unknowns : All (λ e. e.unknown < n) net.edges
  pub states : All (λ e. (e.«from» < net.states) × (e.to < net.states)) net.edges

-- the value of each unknown at a point
abbrev pub values_of : List ℤ → ℕ → ℤ
values_of point u = slice_index_or point u (pos 0)

-- some used edge leads out of a state of the set
pub record LeadsOutOf (x : ℕ → ℤ) (net : Net) (set : List ℕ) : Type 0 where
  pub edge : NetEdge
  pub is_edge : Contains net.edges edge
  pub used : pos 0 <ℤ x edge.unknown
  pub inside : Contains set edge.«from»

-- the set lists, ascending, all states that aren't reached, and a used edge leads out of one of them
pub record IsUnreached (x : ℕ → ℤ) (net : Net) (set : List ℕ) : Type 0 where
  pub ascending : IsStrictlyIncreasing set
  pub members : (s : ℕ) → Contains set s ↔ ((s < net.states) × (Reached x net s → ⊥))
  pub left : LeadsOutOf x net set

-- of the least net that isn't joined
pub record IsNetCut (x : ℕ → ℤ) (nets : List Net) (at : ℕ) (set : List ℕ) : Type 0 where
  pub net : Net
  pub is_net : slice_get nets at ≡ Some net
  pub joined_before : (k : ℕ) (other : Net) → k < at → slice_get nets k ≡ Some other → Joined x other
  pub unreached : IsUnreached x net set

-- what a cutter answers: a cut, or nothing where each net is joined
abbrev pub IsCutAnswer : (ℕ → ℤ) → List Net → Option (ℕ × List ℕ) → Type 0
IsCutAnswer x nets None = All (Joined x) nets
IsCutAnswer x nets (Some cut) = IsNetCut x nets cut.0 cut.1
