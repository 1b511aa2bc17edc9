-- The runs of a product.
use Rattle.std.proofs.Common.{◌≡◌, ℕ, List, [], ◌∷◌, map, refl, ap, sym, ◌∙◌, subst}
use Rattle.sv_word.specs.Words.{IsWord}
use Rattle.machine_core.specs.Costs.{add_costs, zeros}
use Rattle.machine_core.specs.CostLaws.{add_costs-swap, zeros-add_costs-zeros}
use Rattle.machine_core.specs.Language.{RunsFrom}
use Rattle.machine_meet.specs.Products.{MeetEnds, MeetSteps, AllRead, MeetsAll}

module _ {P S : Type 0} (steps : P → S → ℕ → List ℕ → S → Type 0) (w : ℕ) where
  -- a run of the first part, and one of the others
  abbrev pub Both : (S → List ℕ → Type 0) → (List S → List ℕ → Type 0) → P → List P → S → List S → List ℕ → List ℕ → Type 0
  Both E F p ps s ss word cost = (a b : List ℕ) × RunsFrom E (steps p) s word a × RunsFrom F (MeetSteps steps w ps) ss word b × (add_costs a b ≡ cost)

  -- ends of the product that are ends of the first part and of the others
  abbrev pub Parts : (S → List ℕ → Type 0) → (List S → List ℕ → Type 0) → (List S → List ℕ → Type 0) → Type 0
  Parts E F G = (s : S) (ss : List S) (cost : List ℕ) → G (s ∷ ss) cost → (a b : List ℕ) × E s a × F ss b × (add_costs a b ≡ cost)

  pub pair-out : (E : S → List ℕ → Type 0) (F G : List S → List ℕ → Type 0) → Parts E F G
      → (p : P) (ps : List P) (s : S) (ss : List S) (word cost : List ℕ)
      → RunsFrom G (MeetSteps steps w (p ∷ ps)) (s ∷ ss) word cost → Both E F p ps s ss word cost
  pair-out E F G parts p ps s ss [] cost h = parts s ss cost h
  pair-out E F G parts p ps s ss (c ∷ word) cost h =
      let st = h.3 in
      let run = subst (λ (at : List S). RunsFrom G (MeetSteps steps w (p ∷ ps)) at word h.2) (sym st.7) h.4 in
      let r = pair-out E F G parts p ps st.2 st.3 word h.2 run in
      let total : add_costs (add_costs st.0 r.0) (add_costs st.1 r.1) ≡ cost =
      add_costs-swap st.0 r.0 st.1 r.1 ∙ ap (λ x. add_costs x (add_costs r.0 r.1)) st.6 ∙ ap (λ x. add_costs h.0 x) r.4 ∙ sym h.5 in
      (add_costs st.0 r.0, add_costs st.1 r.1, (st.0, st.2, r.0, st.4, r.2, refl), (st.1, st.3, r.1, st.5, r.3, refl), total)

  -- without parts there are the words alone, at no cost
  pub none-out : (F : List S → List ℕ → Type 0) → ((ss : List S) (cost : List ℕ) → F ss cost → cost ≡ zeros w)
      → (word cost : List ℕ) → RunsFrom F (MeetSteps steps w []) [] word cost → IsWord word × (cost ≡ zeros w)
  none-out F free [] cost h = (tt, free [] cost h)
  none-out F free (c ∷ word) cost h =
      let run = subst (λ (at : List S). RunsFrom F (MeetSteps steps w []) at word h.2) h.3.2 h.4 in
      let r = none-out F free word h.2 run in
      ((h.3.0, r.0), h.5 ∙ ap (λ x. add_costs x h.2) h.3.1 ∙ ap (λ x. add_costs (zeros w) x) r.1 ∙ zeros-add_costs-zeros w)

  module _ (ends : P → S → List ℕ → Type 0) where
    pair-in : (p : P) (ps : List P) (s : S) (ss : List S) (word cost : List ℕ)
        → Both (ends p) (MeetEnds ends w ps) p ps s ss word cost → RunsFrom (MeetEnds ends w (p ∷ ps)) (MeetSteps steps w (p ∷ ps)) (s ∷ ss) word cost
    pair-in p ps s ss [] cost h = h
    pair-in p ps s ss (c ∷ word) cost h =
        let a = h.2 in
        let b = h.3 in
        let total : cost ≡ add_costs (add_costs a.0 b.0) (add_costs a.2 b.2) =
        sym h.4 ∙ ap (λ x. add_costs x h.1) a.5 ∙ ap (λ x. add_costs (add_costs a.0 a.2) x) b.5 ∙ add_costs-swap a.0 a.2 b.0 b.2 in
        (add_costs a.0 b.0, a.1 ∷ b.1, add_costs a.2 b.2, (a.0, b.0, a.1, b.1, a.3, b.3, refl, refl), pair-in p ps a.1 b.1 word (add_costs a.2 b.2) (a.2, b.2, a.4, b.4, refl), total)

    none-free : (ss : List S) (cost : List ℕ) → MeetEnds ends w [] ss cost → cost ≡ zeros w
    none-free [] cost h = h
    none-free (s ∷ ss) cost h = absurd h

    none-in : (word cost : List ℕ) → IsWord word → cost ≡ zeros w → RunsFrom (MeetEnds ends w []) (MeetSteps steps w []) [] word cost
    none-in [] cost h e = e
    none-in (c ∷ word) cost h e = (zeros w, [], zeros w, (h.0, refl, refl), none-in word (zeros w) h.1 refl, e ∙ sym (zeros-add_costs-zeros w))

    all-out : (first : P → S) (ps : List P) (word cost : List ℕ) → RunsFrom (MeetEnds ends w ps) (MeetSteps steps w ps) (map first ps) word cost → AllRead ends steps first w ps word cost
    all-out first [] word cost h = none-out (MeetEnds ends w []) none-free word cost h
    all-out first (p ∷ ps) word cost h =
        let r = pair-out (ends p) (MeetEnds ends w ps) (MeetEnds ends w (p ∷ ps)) (λ s ss cost h. h) p ps (first p) (map first ps) word cost h in
        (r.0, r.1, r.2, all-out first ps word r.1 r.3, r.4)

    all-in : (first : P → S) (ps : List P) (word cost : List ℕ) → AllRead ends steps first w ps word cost → RunsFrom (MeetEnds ends w ps) (MeetSteps steps w ps) (map first ps) word cost
    all-in first [] word cost h = none-in word cost h.0 h.1
    all-in first (p ∷ ps) word cost h = pair-in p ps (first p) (map first ps) word cost (h.0, h.1, h.2, all-in first ps word h.1 h.3, h.4)

pub meets-all : {P S : Type 0} (ends : P → S → List ℕ → Type 0) (steps : P → S → ℕ → List ℕ → S → Type 0) (w : ℕ) (first : P → S) (ps : List P) → MeetsAll ends steps first w ps
meets-all ends steps w first ps word cost = (all-out steps w ends first ps word cost, all-in steps w ends first ps word cost)
