-- The product's moves, one machine after another, from the last.
use Rattle.std.proofs.Common.{◌≡◌, ℕ, zero, suc, ◌+◌, ◌<◌, ◌≤◌, ◌^◌, ◌↔◌, inl, inr, nat_le, List, [], ◌∷◌, ◌++◌, length, drop, map, get_or, Any, Contains, refl, ap, sym, ◌∙◌, subst, arith, drop-cons, le-leb, leb-true}
use Rattle.sv_word.specs.Ranges.{IsInhabited, in_ranges, least_of}
use Rattle.machine_core.specs.Costs.{add_costs, zeros, IsCost, CanAdd}
use Rattle.sv_list.specs.Lists.{Any-none, Any-here, Any-cases, Any-map, Any-from_map}
use Rattle.machine_core.specs.CostLaws.{add_costs-zeros, CanAdd-within}
use Rattle.machine_core.specs.Moves.{Moves}
use Rattle.machine_core.specs.declared.machine.Move.{Move}
use Rattle.machine_meet.specs.Joins.{AreJoins, AreInhabited, listed}
use Rattle.machine_meet.specs.Products.{AreStates, MeetSteps, AreProduct, IsNothing, summed}
use Rattle.sv_word.specs.Words.{greatest_character}
use Rattle.std.proofs.lemmas.List.{nil_from_length}
use Rattle.std.proofs.lemmas.List.Elements.{All-nil, All-push}
use Rattle.machine_meet.specs.ProductLaws.{meet_step-cost}

pub drop-end : {X : Type 0} (xs : List X) → drop (length xs) xs ≡ []
drop-end [] = refl
drop-end (x ∷ xs) = drop-end xs

module _ {P S : Type 0} (is_state : P → S → Type 0) where
  pub states-length : (ps : List P) (ss : List S) → AreStates is_state ps ss → length ss ≡ length ps
  states-length [] [] h = refl
  states-length [] (s ∷ ss) h = absurd h
  states-length (p ∷ ps) [] h = absurd h
  states-length (p ∷ ps) (s ∷ ss) h = ap suc (states-length ps ss h.1)

  pub states-drop : (ps : List P) (ss : List S) (i : ℕ) → AreStates is_state ps ss → AreStates is_state (drop i ps) (drop i ss)
  states-drop ps ss zero h = h
  states-drop [] [] (suc i) h = tt
  states-drop [] (s ∷ ss) (suc i) h = absurd h
  states-drop (p ∷ ps) [] (suc i) h = absurd h
  states-drop (p ∷ ps) (s ∷ ss) (suc i) h = states-drop ps ss i h.1

  pub states-at : (ps : List P) (ss : List S) (i : ℕ) (p : P) (s : S) → AreStates is_state ps ss → i < length ps → p ≡ get_or ps i p → s ≡ get_or ss i s → is_state p s
  states-at [] ss i p s h lt e f = absurd (omega arith)
  states-at (q ∷ ps) [] i p s h lt e f = absurd h
  states-at (q ∷ ps) (r ∷ ss) zero p s h lt e f = subst (λ x. is_state x s) (sym e) (subst (is_state q) (sym f) h.0)
  states-at (q ∷ ps) (r ∷ ss) (suc i) p s h lt e f = states-at ps ss i p s h.1 (omega arith) e f

pub top-drop : {P : Type 0} (top : P → ℕ) (ps : List P) (i : ℕ) (p : P) → i < length ps → p ≡ get_or ps i p → top p + summed top (drop (suc i) ps) ≤ summed top ps
top-drop top [] i p lt e = absurd (omega arith)
top-drop top (q ∷ ps) zero p lt e = let e2 = ap top e in omega arith
top-drop top (q ∷ ps) (suc i) p lt e = let r = top-drop top ps i p (omega arith) e in omega arith

pub Contains-drop : {X : Type 0} (xs : List X) (i : ℕ) (x : X) → Contains (drop i xs) x → Contains xs x
Contains-drop xs zero x h = h
Contains-drop [] (suc i) x h = h
Contains-drop (y ∷ xs) (suc i) x h = let r = Contains-drop xs i x h in (suc r.0, omega arith, r.2)

module _ {P S : Type 0} (steps : P → S → ℕ → List ℕ → S → Type 0) (w : ℕ) where
  product-step : (p : P) (ps : List P) (s : S) (ss : List S) (heads : List (Move S)) (tails all : List (Move (List S)))
      → ((c : ℕ) (cost : List ℕ) (t : S) → steps p s c cost t ↔ Any (Moves c cost t) heads)
      → AreProduct steps w ps ss tails → AreJoins heads tails all → AreProduct steps w (p ∷ ps) (s ∷ ss) all
  product-step p ps s ss heads tails all head tail joins c cost to = (
    λ h. (
        let a = (head c h.0 h.2).0 h.4 in
        let b = (tail c h.1 h.3).0 h.5 in
        let cost-is : add_costs a.1.cost b.1.cost ≡ cost = ap (λ x. add_costs x b.1.cost) a.4.1 ∙ ap (λ x. add_costs h.0 x) b.4.1 ∙ h.6 in
        let to-is : (a.1.to ∷ b.1.to) ≡ to = ap (λ (x : S). x ∷ b.1.to) a.4.2 ∙ ap (λ (x : List S). h.2 ∷ x) b.4.2 ∙ h.7 in
        (joins c cost to).1 (a.0, a.1, a.2, a.3, (b.0, b.1, b.2, b.3, (a.4.0, b.4.0, cost-is, to-is)))),
    λ h. (
        let j = (joins c cost to).0 h in
        let a = j.1 in
        let b = j.4.1 in (
          a.cost,
          b.cost,
          a.to,
          b.to,
          (head c a.cost a.to).1 (j.0, j.1, j.2, j.3, (j.4.4.0, refl, refl)),
          (tail c b.cost b.to).1 (j.4.0, j.4.1, j.4.2, j.4.3, (j.4.4.1, refl, refl)),
          j.4.4.2,
          j.4.4.3,
        )),
  )

  pub product-at : (ps : List P) (ss : List S) (i : ℕ) (p : P) (s : S) (heads : List (Move S)) (tails all : List (Move (List S)))
      → i < length ps → length ss ≡ length ps → p ≡ get_or ps i p → s ≡ get_or ss i s
      → ((c : ℕ) (cost : List ℕ) (t : S) → steps p s c cost t ↔ Any (Moves c cost t) heads)
      → AreProduct steps w (drop (suc i) ps) (drop (suc i) ss) tails → AreJoins heads tails all → AreProduct steps w (drop i ps) (drop i ss) all
  product-at ps ss i p s heads tails all lt len e f head tail joins =
      let dp : drop i ps ≡ p ∷ drop (suc i) ps = drop-cons ps i p lt ∙ ap (λ x. x ∷ drop (suc i) ps) (sym e) in
      let ds : drop i ss ≡ s ∷ drop (suc i) ss = drop-cons ss i s (omega arith) ∙ ap (λ x. x ∷ drop (suc i) ss) (sym f) in
      subst (λ xs. AreProduct steps w xs (drop i ss) all) (sym dp) (subst (λ xs. AreProduct steps w (p ∷ drop (suc i) ps) xs all) (sym ds)
      (product-step p (drop (suc i) ps) s (drop (suc i) ss) heads tails all head tail joins))

  -- the moves of the last part, to lists of one state, are those of the product from it on
  pub product-last : (ps : List P) (ss : List S) (i : ℕ) (p : P) (s : S) (moves : List (Move S)) → suc i ≡ length ps → length ss ≡ length ps → p ≡ get_or ps i p → s ≡ get_or ss i s
      → ((c : ℕ) (cost : List ℕ) (t : S) → steps p s c cost t ↔ Any (Moves c cost t) moves)
      → ((c : ℕ) (cost : List ℕ) (t : S) → steps p s c cost t → (c ≤ greatest_character) × (length cost ≡ w))
      → AreProduct steps w (drop i ps) (drop i ss) (map listed moves)
  product-last ps ss i p s moves last len e f exact told =
      let dp : drop i ps ≡ p ∷ [] = drop-cons ps i p (omega arith) ∙ ap (λ x. x ∷ drop (suc i) ps) (sym e) ∙ ap (λ l. p ∷ l) (subst (λ n. drop n ps ≡ []) (sym last) (drop-end ps)) in
      let ds : drop i ss ≡ s ∷ [] = drop-cons ss i s (omega arith) ∙ ap (λ x. x ∷ drop (suc i) ss) (sym f) ∙ ap (λ l. s ∷ l) (subst (λ n. drop n ss ≡ []) (len ∙ sym last) (drop-end ss)) in
      subst (λ xs. AreProduct steps w xs (drop i ss) (map listed moves)) (sym dp) (subst (λ xs. AreProduct steps w (p ∷ []) xs (map listed moves)) (sym ds) one)
    where
      one : AreProduct steps w (p ∷ []) (s ∷ []) (map listed moves)
      one c cost to = (
        λ h. (
            let a = (exact c h.0 h.2).0 h.4 in
            let free : add_costs h.0 h.1 ≡ h.0 = ap (add_costs h.0) h.5.1 ∙ add_costs-zeros h.0 w (told c h.0 h.2 h.4).1 in
            let cost-is : a.1.cost ≡ cost = a.4.1 ∙ sym free ∙ h.6 in
            let to-is : (a.1.to ∷ []) ≡ to = ap (λ (x : S). x ∷ []) a.4.2 ∙ ap (λ (x : List S). h.2 ∷ x) (sym h.5.2) ∙ h.7 in
            Any-map listed (Moves c cost to) moves (a.0, a.1, a.2, a.3, (a.4.0, cost-is, to-is))),
        λ a. (
            let b = Any-from_map listed (Moves c cost to) moves a in
            let step = (exact c b.1.cost b.1.to).1 (b.0, b.1, b.2, b.3, (b.4.0, refl, refl)) in
            let t = told c b.1.cost b.1.to step in
            (b.1.cost, zeros w, b.1.to, [], step, (t.0, refl, refl), add_costs-zeros b.1.cost w t.1 ∙ b.4.1, b.4.2)),
      )

  pub product-none : (ps : List P) (ss : List S) (all : List (Move (List S))) → ps ≡ [] → length ss ≡ length ps → IsNothing w all → AreProduct steps w ps ss all
  product-none ps ss all none len h =
      let empty : ss ≡ [] = nil_from_length ss (len ∙ ap length none) in
      subst (λ xs. AreProduct steps w xs ss all) (sym none) (subst (λ xs. AreProduct steps w [] xs all) (sym empty) h)

  -- where no move of the parts from some place on is left, none of the product is
  pub product-stuck : (ps : List P) (ss : List S) (i : ℕ) → AreProduct steps w (drop i ps) (drop i ss) [] → AreProduct steps w ps ss []
  product-stuck ps ss zero h = h
  product-stuck [] [] (suc i) h = h
  product-stuck [] (s ∷ ss) (suc i) h = λ c cost to. (λ m. absurd m, λ a. absurd (Any-none (Moves c cost to) a))
  product-stuck (p ∷ ps) [] (suc i) h = λ c cost to. (λ m. absurd m, λ a. absurd (Any-none (Moves c cost to) a))
  product-stuck (p ∷ ps) (s ∷ ss) (suc i) h = λ c cost to. (
    λ m. absurd (Any-none (Moves c m.1 m.3) ((product-stuck ps ss i h c m.1 m.3).0 m.5)),
    λ a. absurd (Any-none (Moves c cost to) a),
  )

  -- a step leads to one state of each part
  pub steps-length : (ps : List P) (ss : List S) (c : ℕ) (cost : List ℕ) (ts : List S) → MeetSteps steps w ps ss c cost ts → length ts ≡ length ps
  steps-length [] [] c cost ts m = ap length m.2
  steps-length [] (s ∷ ss) c cost ts m = absurd m
  steps-length (p ∷ ps) [] c cost ts m = absurd m
  steps-length (p ∷ ps) (s ∷ ss) c cost ts m = ap length (sym m.7) ∙ ap suc (steps-length ps ss c m.1 m.3 m.5)

-- a move that some character is on is a step
pub move-step : {S : Type 0} (steps : ℕ → List ℕ → S → Type 0) (moves : List (Move S))
    → ((c : ℕ) (cost : List ℕ) (t : S) → steps c cost t ↔ Any (Moves c cost t) moves) → AreInhabited moves → (m : Move S) → Contains moves m → steps (least_of m.on) m.cost m.to
move-step {S} steps moves exact inhabited m (k, lt, eq) =
    let inh = subst (λ (x : Move S). IsInhabited x.on) eq (inhabited k m lt) in
    (exact (least_of m.on) m.cost m.to).1 (k, m, lt, eq, (inh, refl, refl))

module _ {P S : Type 0} (is_state : P → S → Type 0) (steps : P → S → ℕ → List ℕ → S → Type 0) (width top : P → ℕ)
    (step_cost : (p : P) (s t : S) (c : ℕ) (cost : List ℕ) → is_state p s → steps p s c cost t → IsCost (width p) (top p) cost)
    (w : ℕ) (ps : List P) (agree : (p : P) → Contains ps p → width p ≡ w) (fits : summed top ps < 2 ^ 64) where
  -- what a part's move costs can be added to what the later parts' moves cost
  pub can-add-at : (ss : List S) → AreStates is_state ps ss → (i : ℕ) (p : P) (s : S) → i < length ps → p ≡ get_or ps i p → s ≡ get_or ss i s
      → (heads : List (Move S)) (tails : List (Move (List S)))
      → ((c : ℕ) (cost : List ℕ) (t : S) → steps p s c cost t ↔ Any (Moves c cost t) heads) → AreInhabited heads
      → AreProduct steps w (drop (suc i) ps) (drop (suc i) ss) tails → AreInhabited tails
      → (h : Move S) (t : Move (List S)) → Contains heads h → Contains tails t → CanAdd h.cost t.cost
  can-add-at ss states i p s lt e f heads tails head head-in tail tail-in h t in-h in-t =
      let st = states-at is_state ps ss i p s states lt e f in
      let a = step_cost p s h.to (least_of h.on) h.cost st (move-step (steps p s) heads head head-in h in-h) in
      let a2 = subst (λ n. IsCost n (top p) h.cost) (agree p (i, lt, sym e)) a in
      let b = meet_step-cost is_state width top steps step_cost w (drop (suc i) ps) (λ q k. agree q (Contains-drop ps (suc i) q k)) (drop (suc i) ss) t.to (least_of t.on) t.cost
      (states-drop is_state ps ss (suc i) states) (move-step (MeetSteps steps w (drop (suc i) ps) (drop (suc i) ss)) tails tail tail-in t in-t) in
      let low = top-drop top ps i p lt e in
      CanAdd-within w (top p) (summed top (drop (suc i) ps)) h.cost t.cost (omega arith) a2 b

pub listed-inhabited : {S : Type 0} (moves : List (Move S)) → AreInhabited moves → AreInhabited (map listed moves)
listed-inhabited [] h k d lt = absurd (omega arith)
listed-inhabited (m ∷ ms) h zero d lt = h zero m (omega arith)
listed-inhabited (m ∷ ms) h (suc k) d lt = listed-inhabited ms (λ j e l. h (suc j) e (omega arith)) k d (omega arith)

-- one move on every character, at no cost and to no state
pub nothing-made : {S : Type 0} (width : ℕ) (on : List (ℕ × ℕ)) (free : List ℕ) (to : List S) (none all : List (Move (List S)))
    → ((c : ℕ) → in_ranges on c ≡ nat_le c greatest_character) → IsInhabited on → free ≡ zeros width → to ≡ [] → none ≡ []
    → all ≡ none ++ (record { on = on; cost = free; to = to }) ∷ [] → IsNothing width all × AreInhabited all
nothing-made {S} width on free to none all set some costless end empty made =
    let m : Move (List S) = record { on = on; cost = free; to = to } in
    let whole : all ≡ m ∷ [] = made ∙ ap (λ l. l ++ m ∷ []) empty in (
      λ c cost t. (
        λ h. subst (Any (Moves c cost t)) (sym whole) (Any-here (Moves c cost t) m [] (set c ∙ le-leb c greatest_character h.0, costless ∙ sym h.1, end ∙ sym h.2)),
        λ a. elim (Any-cases (Moves c cost t) m [] (subst (Any (Moves c cost t)) whole a)) [
          | inl p ↦ (leb-true c greatest_character (sym (set c) ∙ p.0), sym p.1 ∙ costless, sym p.2 ∙ end)
          | inr q ↦ absurd (Any-none (Moves c cost t) q)
        ],
      ),
      subst AreInhabited (sym whole) (All-push (λ (x : Move (List S)). IsInhabited x.on) [] m (All-nil (λ (x : Move (List S)). IsInhabited x.on)) some),
    )
