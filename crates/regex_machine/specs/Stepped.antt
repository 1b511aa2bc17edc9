-- The steps of machines without registers as steps of a larger machine, whose states are the number of a part and a state of it.
use Rattle.std.specs.Prelude.{◌≡◌, ℕ, ◌↔◌, ◌⊎◌, Bool, IsTrue, List, [], Any}
use Rattle.machine_core.specs.declared.graph.Graph.{Graph}
use Rattle.machine_core.specs.declared.machine.Move.{Move}
use Rattle.machine_core.specs.Edges.{StepsBy}
use Rattle.machine_core.specs.Moves.{Moves}

-- a step of the machine from its state `s`, as a step to a state of part k
abbrev pub LeadsToPart : Graph → ℕ → ℕ → ℕ → List ℕ → ℕ × ℕ → Type 0
LeadsToPart m s k c cost to = (cost ≡ []) × (to.0 ≡ k) × StepsBy m.edges s c [] to.1

-- a move as one to a state of part k
abbrev pub led : ℕ → Move ℕ → Move (ℕ × ℕ)
led k m = record { on = m.on; cost = m.cost; to = (k, m.to) }

-- `new` has the moves of `old` and those of the machine's state `s`, which lead to states of part k, and no others
abbrev pub AddsSteps : Graph → ℕ → ℕ → List (Move (ℕ × ℕ)) → List (Move (ℕ × ℕ)) → Type 0
AddsSteps m s k old new = (c : ℕ) (cost : List ℕ) (to : ℕ × ℕ) →
    Any (Moves c cost to) new ↔ (Any (Moves c cost to) old ⊎ LeadsToPart m s k c cost to)

-- these are the moves of the machine's state `s`, which lead to states of part k
abbrev pub AreLed : Graph → ℕ → ℕ → List (Move (ℕ × ℕ)) → Type 0
AreLed m s k all = (c : ℕ) (cost : List ℕ) (to : ℕ × ℕ) → Any (Moves c cost to) all ↔ LeadsToPart m s k c cost to

-- nothing is the one cost where a word may end, and there is none where it may not
abbrev pub AreEndsIf : Bool → List (List ℕ) → Type 0
AreEndsIf may costs = (cost : List ℕ) → Any (λ e. e ≡ cost) costs ↔ ((cost ≡ []) × IsTrue may)
