-- Where a machine may be once it went along what is written for a character, by moves that say for which characters.
use Rattle.std.specs.Prelude.{◌≡◌, ℕ, ◌+◌, ◌<◌, ◌≤◌, ◌^◌, ◌↔◌, List, map, length, slice_index, Any, Contains, IsTrue}
use Rattle.sv_word.specs.Ranges.{in_ranges, IsInhabited}
use Rattle.machine_core.specs.Costs.{add_costs}
use Rattle.machine_core.specs.declared.machine.Move.{Move}
use Rattle.machine_core.specs.declared.graph.Graph.{Graph}
use Rattle.machine_core.specs.Moves.{Moves}
use Rattle.machine_core.specs.Language.{RunsFrom, StopsAt}
use Rattle.machine_core.specs.Edges.{EndsAt, StepsBy, edges_top}
use Rattle.sv_terms.specs.Language.{Word}
use Rattle.sv_terms.specs.declared.transducer.TransEdge.{TransEdge}
use Rattle.pre_image.specs.Spelling.{moved_to, spelling}
use Rattle.pre_image.specs.declared.letter.Letter.{Letter}
use Rattle.pre_image.specs.declared.letter.Letter.TheVariants.{Fixed, Moved}

-- what is spelled next where the character c was read: this character, or c moved by a number
abbrev pub next_of : Letter → ℕ → ℕ
next_of (Fixed d) c = d
next_of (Moved k) c = moved_to k c

-- what is spelled in all
abbrev pub spelled : List Letter → ℕ → List ℕ
spelled nexts c = map (λ n. next_of n c) nexts

-- the machine has a path from the state s to the state `to` on the word, at this cost
abbrev pub Goes : Graph → ℕ → Word → List ℕ → ℕ → Type 0
Goes m s word cost to = RunsFrom (StopsAt m.registers to) (StepsBy m.edges) s word cost

-- the lead goes on for this character by a step of the machine from its end
abbrev pub GoesOn : Letter → Move ℕ → ℕ → List ℕ → ℕ → Move ℕ → Type 0
GoesOn next lead c cost to step = IsTrue (in_ranges lead.on c) × IsTrue (in_ranges step.on (next_of next c)) × (add_costs lead.cost step.cost ≡ cost) × (step.to ≡ to)

-- the same by any step of the machine
abbrev pub Led : Graph → Letter → ℕ → List ℕ → ℕ → Move ℕ → Type 0
Led m next c cost to lead = IsTrue (in_ranges lead.on c) × (k : List ℕ) × StepsBy m.edges lead.to (next_of next c) k to × (add_costs lead.cost k ≡ cost)

-- it ends in a state of the machine, is for some character, and a step more costs below 2^64 in all
pub record IsLead (m : Graph) (lead : Move ℕ) : Type 0 where
  pub to : lead.to < m.states
  pub on : IsInhabited lead.on
  pub width : length lead.cost ≡ m.registers
  pub fits : (k : ℕ) → slice_index lead.cost k + edges_top m.edges < 2 ^ 64

-- for the characters from `low` to `high` these are the ends and costs of the paths from s on what `W` has for the character
pub record AreLeads (m : Graph) (s low high : ℕ) (W : ℕ → List ℕ) (leads : List (Move ℕ)) : Type 0 where
  pub exact : (c : ℕ) (cost : List ℕ) (to : ℕ) → ((low ≤ c) × (c ≤ high) × Goes m s (W c) cost to) ↔ Any (Moves c cost to) leads
  pub inhabited : (l : Move ℕ) → Contains leads l → IsInhabited l.on

-- an edge of a transducer leads from a pair of states, on this character at this cost, to another pair
abbrev pub Passes : Graph → ℕ × ℕ → ℕ → List ℕ → ℕ × ℕ → TransEdge → Type 0
Passes m at c cost to e = (e.from ≡ at.0) × (e.lo ≤ c) × (c ≤ e.hi) × (e.to ≡ to.0) × Goes m at.1 (spelling c e.items) cost to.1

-- at an end of a transducer a word may end in this pair of states at this cost
abbrev pub EndsInPair : Graph → ℕ × ℕ → List ℕ → ℕ × Word → Type 0
EndsInPair m at cost e = (e.0 ≡ at.0) × RunsFrom (EndsAt m.ends) (StepsBy m.edges) at.1 e.1 cost
