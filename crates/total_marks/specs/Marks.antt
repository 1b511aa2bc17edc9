-- Marks on pairs of a state and a total, where there is one register: a row of bits for each state of each machine, and one for what is behind the last machine.
use Rattle.std.specs.Prelude.{◌≡◌, ℕ, suc, ◌+◌, ◌*◌, ◌/◌, ◌%◌, ◌<◌, List, length, get_or, take, drop, slice_get, Some, All}
use Rattle.std.specs.Int.{bit_at}
use Rattle.machine_core.specs.declared.edge.Edge.{Edge}
use Rattle.machine_core.specs.declared.end.End.{End}
use Rattle.machine_core.specs.declared.graph.Graph.{Graph}

-- bit t of the words, counted from the lowest one of the first
abbrev pub HasBit : List ℕ → ℕ → Type 0
HasBit words t = bit_at (get_or words (t / 64) 0) (t % 64) ≡ 1

-- the words of a row, where each row has so many
abbrev pub row_of : List ℕ → ℕ → ℕ → List ℕ
row_of words width row = take width (drop (row * width) words)

-- the total is marked at the row
abbrev pub IsTotalMarked : List ℕ → ℕ → ℕ → ℕ → Type 0
IsTotalMarked words width row total = HasBit (row_of words width row) total

-- what is paid at the one register
abbrev pub charge : List ℕ → ℕ
charge cost = get_or cost 0 0

-- each total of the first words is one of the others, moved up by the cost, as far as they have room
abbrev pub Covers : List ℕ → List ℕ → ℕ → Type 0
Covers from to cost = (total : ℕ) → HasBit from total → total + cost < 64 * length to → HasBit to (total + cost)

module _ (words : List ℕ) (width : ℕ) where
  -- each total that is marked at the first row is marked at the other one with the cost more, as far as a row has room
  abbrev pub StepPasses : ℕ → ℕ → ℕ → Type 0
  StepPasses from to cost = (total : ℕ) → IsTotalMarked words width from total → total + cost < 64 * width → IsTotalMarked words width to (total + cost)

  -- each edge passes on what is marked, where the machine's states have the rows from this one on
  abbrev pub EdgesPass : ℕ → List Edge → Type 0
  EdgesPass base = All (λ d. StepPasses (base + d.from) (base + d.to) (charge d.cost))

  -- so does each end, to this row
  abbrev pub EndsPass : ℕ → ℕ → List End → Type 0
  EndsPass base next = All (λ e. StepPasses (base + e.at) next (charge e.cost))

  -- rows have room for totals up to the greatest one, the total 0 is marked at the start, and all edges and ends pass on what is marked, where each machine has so many rows
  pub record MarksAreClosed (machines : List Graph) (states most : ℕ) : Type 0 where
    pub room : most < 64 * width
    pub begun : IsTotalMarked words width 0 0
    pub edges : (i : ℕ) (m : Graph) → slice_get machines i ≡ Some m → EdgesPass (i * states) m.edges
    pub ends : (i : ℕ) (m : Graph) → slice_get machines i ≡ Some m → EndsPass (i * states) (suc i * states) m.ends
