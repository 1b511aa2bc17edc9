-- The meaning of listed edges and ends.
use Rattle.std.specs.Prelude.{◌≡◌, ℕ, ◌<◌, ◌≤◌, max, Any, Contains, List, [], ◌∷◌, length, slice_get, Some, IsTrue}
use Rattle.sv_word.specs.Ranges.{in_ranges, IsInhabited}
use Rattle.machine_core.specs.Costs.{zeros, top_by, cost_top}
use Rattle.machine_core.specs.Moves.{Moves}
use Rattle.machine_core.specs.declared.machine.Move.{Move}
use Rattle.machine_core.specs.declared.edge.Edge.{Edge}
use Rattle.machine_core.specs.declared.end.End.{End}
use Rattle.sv_word.specs.Words.{greatest_character}

abbrev pub edge : ℕ → List (ℕ × ℕ) → List ℕ → ℕ → Edge
edge from on cost to = record { from = from; on = on; cost = cost; to = to }

abbrev pub ending : ℕ → List ℕ → End
ending at cost = record { at = at; cost = cost }

-- an edge without the state that it leaves
abbrev pub move_of : Edge → Move ℕ
move_of e = record { on = e.on; cost = e.cost; to = e.to }

-- one of the ends says that a word may end in this state at this cost
abbrev pub EndsAt : List End → ℕ → List ℕ → Type 0
EndsAt ends at cost = Any (λ e. (e.at ≡ at) × (e.cost ≡ cost)) ends

-- one of the edges leads from a state to a state on this character, at this cost
abbrev pub StepsBy : List Edge → ℕ → ℕ → List ℕ → ℕ → Type 0
StepsBy edges from c cost to = Any (λ e. (e.from ≡ from) × Moves c cost to (move_of e)) edges

-- the edges at these places lead from `s` to `t`, one after another
abbrev pub IsWalk : List Edge → ℕ → List ℕ → ℕ → Type 0
IsWalk edges s [] t = s ≡ t
IsWalk edges s (p ∷ ps) t = (e : Edge) × (slice_get edges p ≡ Some e) × (e.from ≡ s) × IsWalk edges e.to ps t

-- the keys by which edges and ends are found
abbrev pub from_of : Edge → ℕ
from_of e = e.from

abbrev pub at_of : End → ℕ
at_of e = e.at

-- the greatest cost of an edge at a register
abbrev pub edges_top : List Edge → ℕ
edges_top = top_by (λ e. cost_top e.cost)

-- the greatest cost of an end at a register
abbrev pub ends_top : List End → ℕ
ends_top = top_by (λ e. cost_top e.cost)

-- the greatest cost of an edge or an end at a register
abbrev pub listed_top : List Edge → List End → ℕ
listed_top edges ends = max (edges_top edges) (ends_top ends)

-- it joins two states on some character and on characters alone, and has one number for each register
pub record IsEdge (states width : ℕ) (e : Edge) : Type 0 where
  pub from : e.from < states
  pub to : e.to < states
  pub cost : length e.cost ≡ width
  pub on : IsInhabited e.on
  pub characters : (c : ℕ) → IsTrue (in_ranges e.on c) → c ≤ greatest_character

-- it stands at a state, and has one number for each register
pub record IsEnd (states width : ℕ) (e : End) : Type 0 where
  pub at : e.at < states
  pub cost : length e.cost ≡ width

pub record AreEdgesAndEnds (states width : ℕ) (edges : List Edge) (ends : List End) : Type 0 where
  pub edge : (e : Edge) → Contains edges e → IsEdge states width e
  pub ending : (e : End) → Contains ends e → IsEnd states width e

-- the same edge at no cost, for so many registers
abbrev pub wide_edge : ℕ → Edge → Edge
wide_edge width e = edge e.from e.on (zeros width) e.to

-- the same end at no cost, for so many registers
abbrev pub wide_end : ℕ → End → End
wide_end width e = ending e.at (zeros width)
