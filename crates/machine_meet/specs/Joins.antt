-- Moves and end costs of a machine, joined with those of the machines after it.
use Rattle.std.specs.Prelude.{◌≡◌, ℕ, ◌&&◌, [], ◌∷◌, List, IsTrue, All, Any, ◌↔◌, ◌⊎◌}
use Rattle.sv_word.specs.Ranges.{in_ranges, IsInhabited}
use Rattle.machine_core.specs.Costs.{add_costs}
use Rattle.machine_core.specs.declared.machine.Move.{Move}
use Rattle.machine_core.specs.Moves.{Moves}

-- both moves read this character, together they cost this, and they lead there
abbrev pub Joins : {S : Type 0} → ℕ → List ℕ → List S → Move S → Move (List S) → Type 0
Joins c cost to head tail = IsTrue (in_ranges head.on c) × IsTrue (in_ranges tail.on c) × (add_costs head.cost tail.cost ≡ cost) × ((head.to ∷ tail.to) ≡ to)

-- one move that does what both do
pub record IsJoin {S : Type 0} (head : Move S) (tail : Move (List S)) (m : Move (List S)) : Type 0 where
  pub on : (c : ℕ) → in_ranges m.on c ≡ (in_ranges head.on c && in_ranges tail.on c)
  pub cost : m.cost ≡ add_costs head.cost tail.cost
  pub to : m.to ≡ head.to ∷ tail.to
  pub inhabited : IsInhabited m.on

-- each of the moves reads some character
abbrev pub AreInhabited : {S : Type 0} → List (Move S) → Type 0
AreInhabited moves = All (λ m. IsInhabited m.on) moves

-- these are the moves that one of the heads makes with one of the tails
abbrev pub AreJoins : {S : Type 0} → List (Move S) → List (Move (List S)) → List (Move (List S)) → Type 0
AreJoins {S} heads tails all = (c : ℕ) (cost : List ℕ) (to : List S) →
    Any (Moves c cost to) all ↔ Any (λ h. Any (Joins c cost to h) tails) heads

-- `new` has the costs of `old` and the sums of `head` with the tails, and no others
abbrev pub AddsSums : List ℕ → List (List ℕ) → List (List ℕ) → List (List ℕ) → Type 0
AddsSums head tails old new = (cost : List ℕ) → Any (λ e. e ≡ cost) new ↔ (Any (λ e. e ≡ cost) old ⊎ Any (λ b. add_costs head b ≡ cost) tails)

-- these are the sums of one of the heads with one of the tails
abbrev pub AreSums : List (List ℕ) → List (List ℕ) → List (List ℕ) → Type 0
AreSums heads tails all = (cost : List ℕ) → Any (λ e. e ≡ cost) all ↔ Any (λ a. Any (λ b. add_costs a b ≡ cost) tails) heads

-- a move as one to the list of its state
abbrev pub listed : {S : Type 0} → Move S → Move (List S)
listed m = record { on = m.on; cost = m.cost; to = m.to ∷ [] }
