-- The product of machines: each of them reads the word, and their costs are added up.
use Rattle.std.specs.Prelude.{◌≡◌, ℕ, ◌≤◌, ◌+◌, ◌*◌, ⊤, List, [], ◌∷◌, map, Any, ◌↔◌}
use Rattle.sv_word.specs.Words.{IsWord, greatest_character}
use Rattle.machine_core.specs.Moves.{Moves}
use Rattle.machine_core.specs.declared.machine.Move.{Move}
use Rattle.machine_core.specs.Costs.{add_costs, zeros}
use Rattle.machine_core.specs.Language.{RunsFrom}

-- the number of registers of the parts, and 0 where there is no part
abbrev pub meet_width : {P : Type 0} → (P → ℕ) → List P → ℕ
meet_width width [] = 0
meet_width width (p ∷ ps) = width p

-- what `f` has at the parts, added up
abbrev pub summed : {P : Type 0} → (P → ℕ) → List P → ℕ
summed f [] = 0
summed f (p ∷ ps) = f p + summed f ps

-- what `f` has at the parts, multiplied
abbrev pub multiplied : {P : Type 0} → (P → ℕ) → List P → ℕ
multiplied f [] = 1
multiplied f (p ∷ ps) = f p * multiplied f ps

-- each part keeps within the slope and the base at its place
abbrev pub EachWithin : {P : Type 0} → (P → ℕ → ℕ → Type 0) → List P → List ℕ → List ℕ → Type 0
EachWithin W [] [] [] = ⊤
EachWithin W [] [] (b ∷ bases) = ⊥
EachWithin W [] (s ∷ slopes) bases = ⊥
EachWithin W (p ∷ ps) [] bases = ⊥
EachWithin W (p ∷ ps) (s ∷ slopes) [] = ⊥
EachWithin W (p ∷ ps) (s ∷ slopes) (b ∷ bases) = W p s b × EachWithin W ps slopes bases

-- numbers added up
abbrev pub total : List ℕ → ℕ
total ns = summed (λ n. n) ns

module _ {P S : Type 0} where
  -- a state of the product: one of each part, in the order of the parts
  abbrev pub AreStates : (P → S → Type 0) → List P → List S → Type 0
  AreStates is_state [] [] = ⊤
  AreStates is_state [] (s ∷ ss) = ⊥
  AreStates is_state (p ∷ ps) [] = ⊥
  AreStates is_state (p ∷ ps) (s ∷ ss) = is_state p s × AreStates is_state ps ss

  -- a word may end where it may end in each part, at the sum of the costs there
  abbrev pub MeetEnds : (P → S → List ℕ → Type 0) → ℕ → List P → List S → List ℕ → Type 0
  MeetEnds ends width [] [] cost = cost ≡ zeros width
  MeetEnds ends width [] (s ∷ ss) cost = ⊥
  MeetEnds ends width (p ∷ ps) [] cost = ⊥
  MeetEnds ends width (p ∷ ps) (s ∷ ss) cost = (a b : List ℕ) × ends p s a × MeetEnds ends width ps ss b × (add_costs a b ≡ cost)

  -- each part steps on the character, and the costs of these steps are added up
  abbrev pub MeetSteps : (P → S → ℕ → List ℕ → S → Type 0) → ℕ → List P → List S → ℕ → List ℕ → List S → Type 0
  MeetSteps steps width [] [] c cost to = (c ≤ greatest_character) × (cost ≡ zeros width) × (to ≡ [])
  MeetSteps steps width [] (s ∷ ss) c cost to = ⊥
  MeetSteps steps width (p ∷ ps) [] c cost to = ⊥
  MeetSteps steps width (p ∷ ps) (s ∷ ss) c cost to = (a b : List ℕ) × (t : S) × (ts : List S)
      × steps p s c a t × MeetSteps steps width ps ss c b ts × (add_costs a b ≡ cost) × ((t ∷ ts) ≡ to)

  -- it is a word, each part reads it from its first state at some cost, and these costs add up to this one
  abbrev pub AllRead : (P → S → List ℕ → Type 0) → (P → S → ℕ → List ℕ → S → Type 0) → (P → S) → ℕ → List P → List ℕ → List ℕ → Type 0
  AllRead ends steps first width [] word cost = IsWord word × (cost ≡ zeros width)
  AllRead ends steps first width (p ∷ ps) word cost = (a b : List ℕ)
      × RunsFrom (ends p) (steps p) (first p) word a × AllRead ends steps first width ps word b × (add_costs a b ≡ cost)

-- the pairs of the product are those that the parts read together
abbrev pub MeetsAll : {P S : Type 0} → (P → S → List ℕ → Type 0) → (P → S → ℕ → List ℕ → S → Type 0) → (P → S) → ℕ → List P → Type 0
MeetsAll ends steps first width ps = (word cost : List ℕ) →
    RunsFrom (MeetEnds ends width ps) (MeetSteps steps width ps) (map first ps) word cost ↔ AllRead ends steps first width ps word cost

-- the moves of a product without parts
abbrev pub IsNothing : {S : Type 0} → ℕ → List (Move (List S)) → Type 0
IsNothing {S} width all = (c : ℕ) (cost : List ℕ) (to : List S) → ((c ≤ greatest_character) × (cost ≡ zeros width) × (to ≡ [])) ↔ Any (Moves c cost to) all

-- these are the moves of the product
abbrev pub AreProduct : {P S : Type 0} → (P → S → ℕ → List ℕ → S → Type 0) → ℕ → List P → List S → List (Move (List S)) → Type 0
AreProduct {P} {S} steps width ps ss all = (c : ℕ) (cost : List ℕ) (to : List S) → MeetSteps steps width ps ss c cost to ↔ Any (Moves c cost to) all

-- these are the costs at which a word may end in the product
abbrev pub AreEndCosts : {P S : Type 0} → (P → S → List ℕ → Type 0) → ℕ → List P → List S → List (List ℕ) → Type 0
AreEndCosts ends width ps ss all = (cost : List ℕ) → MeetEnds ends width ps ss cost ↔ Any (λ e. e ≡ cost) all
