-- What a product of machines keeps.
use Rattle.std.specs.Prelude.{◌≡◌, ℕ, ◌≤◌, ◌+◌, ◌*◌, List, [], ◌∷◌, map, Contains}
use Rattle.std.proofs.Common.{arith, refl, sym, subst}
use Rattle.machine_core.specs.Costs.{IsCost}
use Rattle.machine_core.specs.CostLaws.{IsCost-add, IsCost-zeros}
use Rattle.machine_core.specs.Counts.{AreAtMost, at_most-weaker, at_most-one, at_most-made, at_most-pairs}
use Rattle.sv_list.specs.Lists.{Contains-here, Contains-there}
use Rattle.machine_meet.specs.Products.{AreStates, MeetEnds, MeetSteps, summed, multiplied}
use Rattle.sv_word.specs.Words.{greatest_character}

module _ {P S : Type 0} (is_state : P → S → Type 0) where
  pub first-states : (first : P → S) → ((p : P) → is_state p (first p)) → (ps : List P) → AreStates is_state ps (map first ps)
  first-states first ok [] = tt
  first-states first ok (p ∷ ps) = (ok p, first-states first ok ps)

  module _ (steps : P → S → ℕ → List ℕ → S → Type 0) (width : ℕ) where
    pub step-states : ((p : P) (s t : S) (c : ℕ) (cost : List ℕ) → is_state p s → steps p s c cost t → is_state p t)
        → (ps : List P) (ss ts : List S) (c : ℕ) (cost : List ℕ) → AreStates is_state ps ss → MeetSteps steps width ps ss c cost ts → AreStates is_state ps ts
    step-states ok [] [] ts c cost h st = subst (AreStates is_state []) (sym st.2) tt
    step-states ok [] (s ∷ ss) ts c cost h st = absurd h
    step-states ok (p ∷ ps) [] ts c cost h st = absurd h
    step-states ok (p ∷ ps) (s ∷ ss) ts c cost h st =
        let both : AreStates is_state (p ∷ ps) (st.2 ∷ st.3) = (ok p s st.2 c st.0 h.0 st.4, step-states ok ps ss st.3 c st.1 h.1 st.5) in
        subst (AreStates is_state (p ∷ ps)) st.7 both

    pub step-character : ((p : P) (s t : S) (c : ℕ) (cost : List ℕ) → is_state p s → steps p s c cost t → c ≤ greatest_character)
        → (ps : List P) (ss ts : List S) (c : ℕ) (cost : List ℕ) → AreStates is_state ps ss → MeetSteps steps width ps ss c cost ts → c ≤ greatest_character
    step-character ok [] [] ts c cost h st = st.0
    step-character ok [] (s ∷ ss) ts c cost h st = absurd h
    step-character ok (p ∷ ps) [] ts c cost h st = absurd h
    step-character ok (p ∷ ps) (s ∷ ss) ts c cost h st = ok p s st.2 c st.0 h.0 st.4

  module _ (width top : P → ℕ) where
    pub meet_step-cost : (steps : P → S → ℕ → List ℕ → S → Type 0)
        → ((p : P) (s t : S) (c : ℕ) (cost : List ℕ) → is_state p s → steps p s c cost t → IsCost (width p) (top p) cost)
        → (w : ℕ) (ps : List P) → ((p : P) → Contains ps p → width p ≡ w)
        → (ss ts : List S) (c : ℕ) (cost : List ℕ) → AreStates is_state ps ss → MeetSteps steps w ps ss c cost ts → IsCost w (summed top ps) cost
    meet_step-cost steps ok w [] agree [] ts c cost h st = subst (IsCost w 0) (sym st.1) (IsCost-zeros w 0)
    meet_step-cost steps ok w [] agree (s ∷ ss) ts c cost h st = absurd h
    meet_step-cost steps ok w (p ∷ ps) agree [] ts c cost h st = absurd h
    meet_step-cost steps ok w (p ∷ ps) agree (s ∷ ss) ts c cost h st =
        let head = subst (λ n. IsCost n (top p) st.0) (agree p (Contains-here p ps)) (ok p s st.2 c st.0 h.0 st.4) in
        let tail = meet_step-cost steps ok w ps (λ q k. agree q (Contains-there p ps q k)) ss st.3 c st.1 h.1 st.5 in
        subst (IsCost w (top p + summed top ps)) st.6 (IsCost-add w (top p) (summed top ps) st.0 st.1 head tail)

    pub meet_end-cost : (ends : P → S → List ℕ → Type 0)
        → ((p : P) (s : S) (cost : List ℕ) → is_state p s → ends p s cost → IsCost (width p) (top p) cost)
        → (w : ℕ) (ps : List P) → ((p : P) → Contains ps p → width p ≡ w)
        → (ss : List S) (cost : List ℕ) → AreStates is_state ps ss → MeetEnds ends w ps ss cost → IsCost w (summed top ps) cost
    meet_end-cost ends ok w [] agree [] cost h e = subst (IsCost w 0) (sym e) (IsCost-zeros w 0)
    meet_end-cost ends ok w [] agree (s ∷ ss) cost h e = absurd h
    meet_end-cost ends ok w (p ∷ ps) agree [] cost h e = absurd h
    meet_end-cost ends ok w (p ∷ ps) agree (s ∷ ss) cost h e =
        let head = subst (λ n. IsCost n (top p) e.0) (agree p (Contains-here p ps)) (ok p s e.0 h.0 e.2) in
        let tail = meet_end-cost ends ok w ps (λ q k. agree q (Contains-there p ps q k)) ss e.1 h.1 e.3 in
        subst (IsCost w (top p + summed top ps)) e.4 (IsCost-add w (top p) (summed top ps) e.0 e.1 head tail)

  -- lists of one state of each part are as many as the product of the parts' numbers
  pub states-at_most : (size : P → ℕ) → ((p : P) → AreAtMost (is_state p) (size p)) → (ps : List P) → AreAtMost (AreStates is_state ps) (multiplied size ps)
  states-at_most size most [] = at_most-weaker (λ ss. [] ≡ ss) (AreStates is_state []) 1 1 alone (omega arith) (at_most-one [])
    where
      alone : (ss : List S) → AreStates is_state [] ss → [] ≡ ss
      alone [] h = refl
      alone (s ∷ ss) h = absurd h
  states-at_most size most (p ∷ ps) =
      at_most-made (λ (q : S × List S). q.0 ∷ q.1) (λ (q : S × List S). is_state p q.0 × AreStates is_state ps q.1) (AreStates is_state (p ∷ ps))
      (size p * multiplied size ps) parted
      (at_most-pairs (is_state p) (AreStates is_state ps) (size p) (multiplied size ps) (most p) (states-at_most size most ps))
    where
      parted : (ss : List S) → AreStates is_state (p ∷ ps) ss → (q : S × List S) × (is_state p q.0 × AreStates is_state ps q.1) × (q.0 ∷ q.1 ≡ ss)
      parted [] h = absurd h
      parted (s ∷ ss) h = ((s, ss), h, refl)
