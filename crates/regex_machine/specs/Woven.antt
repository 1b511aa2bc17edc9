-- The machine of states that are made from the end on, and states of a part that are put among them.
use Rattle.std.specs.Prelude.{◌≡◌, ℕ, ◌+◌, ◌<◌, ◌≤◌, ◌↔◌, ◌⊎◌, IsTrue, Some, List, [], ◌++◌, length, slice_get, Any}
use Rattle.std.proofs.Common.{sym, ◌∙◌, subst}
use Rattle.std.proofs.lemmas.List.{nil_from_length}
use Rattle.sv_word.specs.Words.{greatest_character}
use Rattle.machine_core.specs.declared.graph.Graph.{Graph}
use Rattle.machine_core.specs.declared.machine.Move.{Move}
use Rattle.machine_core.specs.Costs.{IsCost}
use Rattle.machine_core.specs.Edges.{EndsAt, StepsBy}
use Rattle.sv_list.specs.Lists.{contained, slice_get-contains}
use Rattle.machine_core.specs.Moves.{Moves}
use Rattle.regex_machine.specs.Laws.{no-cost}
use Rattle.regex_machine.specs.Onwards.{IsOnward, AreClosed}
use Rattle.regex_machine.specs.declared.onward.Onward.{Onward}

-- a word may end in the state, at no cost
abbrev pub WovenEnds : List Onward → ℕ → List ℕ → Type 0
WovenEnds states s cost = (o : Onward) × (slice_get states s ≡ Some o) × (cost ≡ []) × IsTrue o.may_end

-- a move of the state leads there
abbrev pub WovenSteps : List Onward → ℕ → ℕ → List ℕ → ℕ → Type 0
WovenSteps states s c cost t = (o : Onward) × (slice_get states s ≡ Some o) × Any (Moves c cost t) o.moves

pub woven-state : (states : List Onward) → AreClosed states → (s c : ℕ) (cost : List ℕ) (t : ℕ) → WovenSteps states s c cost t → t < length states
woven-state states closed s c cost t h =
    let m = contained (Moves c cost t) h.0.moves h.2 in
    subst (λ n. n < length states) m.2.2 ((closed h.0 (slice_get-contains states s h.0 h.1)).moves m.0 m.1).to

pub woven-character : (states : List Onward) → AreClosed states → (s c : ℕ) (cost : List ℕ) (t : ℕ) → WovenSteps states s c cost t → c ≤ greatest_character
woven-character states closed s c cost t h =
    let m = contained (Moves c cost t) h.0.moves h.2 in
    (closed h.0 (slice_get-contains states s h.0 h.1)).characters m.0 m.1 c m.2.0

pub woven-free : (states : List Onward) → AreClosed states → (s c : ℕ) (cost : List ℕ) (t : ℕ) → WovenSteps states s c cost t → cost ≡ []
woven-free states closed s c cost t h =
    let m = contained (Moves c cost t) h.0.moves h.2 in
    sym m.2.1 ∙ nil_from_length m.0.cost ((closed h.0 (slice_get-contains states s h.0 h.1)).moves m.0 m.1).cost

pub woven-cost : (states : List Onward) → AreClosed states → (s c : ℕ) (cost : List ℕ) (t : ℕ) → WovenSteps states s c cost t → IsCost 0 0 cost
woven-cost states closed s c cost t h = no-cost cost (woven-free states closed s c cost t h)

-- what follows in the whole at a state of a part, whose states are counted from `base`: the part's own moves, and where a word of the part may end, what follows the part
pub record IsPlaced (m : Graph) (at base : ℕ) (rest o : Onward) : Type 0 where
  pub moves : (c t : ℕ) → Any (Moves c [] t) o.moves ↔ (((v : ℕ) × (t ≡ base + v) × StepsBy m.edges at c [] v) ⊎ (EndsAt m.ends at [] × Any (Moves c [] t) rest.moves))
  pub may_end : IsTrue o.may_end ↔ (EndsAt m.ends at [] × IsTrue rest.may_end)
  pub onward : (n : ℕ) → base + m.states ≤ n → IsOnward n rest → IsOnward n o

-- the first n states of the part stand behind the old states
pub record ArePlaced (m : Graph) (n : ℕ) (rest : Onward) (old new : List Onward) : Type 0 where
  pub more : List Onward
  pub grown : new ≡ old ++ more
  pub count : length more ≡ n
  pub each : (s : ℕ) (o : Onward) → slice_get more s ≡ Some o → IsPlaced m s (length old) rest o

-- a move whose target is counted from `base`
abbrev pub counted : ℕ → Move ℕ → Move ℕ
counted base m = record { on = m.on; cost = m.cost; to = base + m.to }
