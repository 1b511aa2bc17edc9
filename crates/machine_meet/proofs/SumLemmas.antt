-- The end costs of a product, one machine after another, from the last.
use Rattle.std.proofs.Common.{◌≡◌, ℕ, zero, suc, ◌+◌, ◌<◌, ◌^◌, ◌↔◌, inl, inr, List, [], ◌∷◌, ◌++◌, length, take, drop, get_or, Any, Contains, refl, ap, sym, ◌∙◌, subst, arith, add-one, drop-cons}
use Rattle.std.proofs.lemmas.List.Quantifiers.{Any-push}
use Rattle.machine_core.specs.Costs.{add_costs, zeros, IsCost, CanAdd}
use Rattle.machine_core.specs.CostLaws.{CanAdd-within}
use Rattle.machine_meet.specs.Joins.{AddsSums, AreSums}
use Rattle.machine_meet.specs.Products.{AreStates, AreEndCosts, summed}
use Rattle.machine_meet.specs.ProductLaws.{meet_end-cost}
use Rattle.sv_list.specs.Lists.{Any-none, Any-push_cases}
use Rattle.machine_meet.proofs.JoinLemmas.{take-push, take-all, Any-old}
use Rattle.machine_meet.proofs.ProductLemmas.{drop-end, states-at, states-drop, top-drop, Contains-drop}

module _ (head : List ℕ) where
  sums-step : (tails old mid : List (List ℕ)) (tail : List ℕ) → AddsSums head tails old mid → AddsSums head (tails ++ tail ∷ []) old (mid ++ add_costs head tail ∷ [])
  sums-step tails old mid tail g cost =
      let P : List ℕ → Type 0 = λ b. add_costs head b ≡ cost in
      let Q : List ℕ → Type 0 = λ e. e ≡ cost in (
        λ h. elim (Any-push_cases Q mid (add_costs head tail) h) [
          | inl k ↦ elim ((g cost).0 k) [ inl o ↦ inl o | inr o ↦ inr (Any-old P tails tail o) ]
          | inr k ↦ inr (Any-push P tails tail k)
        ],
        λ h. elim h [
          | inl k ↦ Any-old Q mid (add_costs head tail) ((g cost).1 (inl k))
          | inr k ↦ elim (Any-push_cases P tails tail k) [
            | inl o ↦ Any-old Q mid (add_costs head tail) ((g cost).1 (inr o))
            | inr o ↦ Any-push Q mid (add_costs head tail) o
          ]
        ],
      )

  pub sums-take : (tails old mid new : List (List ℕ)) (i : ℕ) (tail : List ℕ) → i < length tails → tail ≡ get_or tails i tail → new ≡ mid ++ add_costs head tail ∷ []
      → AddsSums head (take i tails) old mid → AddsSums head (take (i + 1) tails) old new
  sums-take tails old mid new i tail lt is pushed g =
      let e : take (i + 1) tails ≡ take i tails ++ tail ∷ [] = rw add-one (take-push tails i tail lt ∙ ap (λ t. take i tails ++ t ∷ []) (sym is)) in
      subst (λ ts. AddsSums head ts old new) (sym e) (subst (AddsSums head (take i tails ++ tail ∷ []) old) (sym pushed) (sums-step (take i tails) old mid tail g))

  pub sums-all : (tails old new : List (List ℕ)) (i : ℕ) → i ≡ length tails → AddsSums head (take i tails) old new → AddsSums head tails old new
  sums-all tails old new i e g = subst (λ ts. AddsSums head ts old new) (take-all tails i e) g

pub total-take : (tails heads mid new : List (List ℕ)) (i : ℕ) (head : List ℕ) → i < length heads → head ≡ get_or heads i head
    → AreSums (take i heads) tails mid → AddsSums head tails mid new → AreSums (take (i + 1) heads) tails new
total-take tails heads mid new i head lt is g a =
    let e : take (i + 1) heads ≡ take i heads ++ head ∷ [] = rw add-one (take-push heads i head lt ∙ ap (λ t. take i heads ++ t ∷ []) (sym is)) in
    subst (λ hs. AreSums hs tails new) (sym e) step
  where
    step : AreSums (take i heads ++ head ∷ []) tails new
    step cost = let P : List ℕ → Type 0 = λ x. Any (λ b. add_costs x b ≡ cost) tails in (
      λ h. elim ((a cost).0 h) [ inl k ↦ Any-old P (take i heads) head ((g cost).0 k) | inr k ↦ Any-push P (take i heads) head k ],
      λ h. elim (Any-push_cases P (take i heads) head h) [ inl k ↦ (a cost).1 (inl ((g cost).1 k)) | inr k ↦ (a cost).1 (inr k) ],
    )

pub total-all : (tails heads new : List (List ℕ)) (i : ℕ) → i ≡ length heads → AreSums (take i heads) tails new → AreSums heads tails new
total-all tails heads new i e g = subst (λ hs. AreSums hs tails new) (take-all heads i e) g

module _ {P S : Type 0} (ends : P → S → List ℕ → Type 0) (w : ℕ) where
  ends-step : (p : P) (ps : List P) (s : S) (ss : List S) (heads tails all : List (List ℕ))
      → ((cost : List ℕ) → ends p s cost ↔ Any (λ e. e ≡ cost) heads) → AreEndCosts ends w ps ss tails → AreSums heads tails all → AreEndCosts ends w (p ∷ ps) (s ∷ ss) all
  ends-step p ps s ss heads tails all head tail sums cost = (
    λ h. (
        let a = (head h.0).0 h.2 in
        let b = (tail h.1).0 h.3 in
        (sums cost).1 (a.0, a.1, a.2, a.3, (b.0, b.1, b.2, b.3, ap (λ x. add_costs x b.1) a.4 ∙ ap (λ x. add_costs h.0 x) b.4 ∙ h.4))),
    λ h. (
        let j = (sums cost).0 h in
        (j.1, j.4.1, (head j.1).1 (j.0, j.1, j.2, j.3, refl), (tail j.4.1).1 (j.4.0, j.4.1, j.4.2, j.4.3, refl), j.4.4)),
  )

  pub ends-at : (ps : List P) (ss : List S) (i : ℕ) (p : P) (s : S) (heads tails all : List (List ℕ))
      → i < length ps → length ss ≡ length ps → p ≡ get_or ps i p → s ≡ get_or ss i s
      → ((cost : List ℕ) → ends p s cost ↔ Any (λ e. e ≡ cost) heads)
      → AreEndCosts ends w (drop (suc i) ps) (drop (suc i) ss) tails → AreSums heads tails all → AreEndCosts ends w (drop i ps) (drop i ss) all
  ends-at ps ss i p s heads tails all lt len e f head tail sums =
      let dp : drop i ps ≡ p ∷ drop (suc i) ps = drop-cons ps i p lt ∙ ap (λ x. x ∷ drop (suc i) ps) (sym e) in
      let ds : drop i ss ≡ s ∷ drop (suc i) ss = drop-cons ss i s (omega arith) ∙ ap (λ x. x ∷ drop (suc i) ss) (sym f) in
      subst (λ xs. AreEndCosts ends w xs (drop i ss) all) (sym dp) (subst (λ xs. AreEndCosts ends w (p ∷ drop (suc i) ps) xs all) (sym ds)
      (ends-step p (drop (suc i) ps) s (drop (suc i) ss) heads tails all head tail sums))

  pub ends-start : (ps : List P) (ss : List S) (all : List (List ℕ)) → length ss ≡ length ps → all ≡ zeros w ∷ [] → AreEndCosts ends w (drop (length ps) ps) (drop (length ps) ss) all
  ends-start ps ss all len e =
      let dp = drop-end ps in
      let ds : drop (length ps) ss ≡ [] = subst (λ n. drop n ss ≡ []) len (drop-end ss) in
      subst (λ xs. AreEndCosts ends w xs (drop (length ps) ss) all) (sym dp) (subst (λ xs. AreEndCosts ends w [] xs all) (sym ds) (subst (AreEndCosts ends w [] []) (sym e) one))
    where
      last : (cost : List ℕ) → Any (λ e. e ≡ cost) (zeros w ∷ []) → cost ≡ zeros w
      last cost (zero, x, lt, e, p) = sym p ∙ sym e
      last cost (suc k, x, lt, e, p) = absurd (omega arith)

      one : AreEndCosts ends w [] [] (zeros w ∷ [])
      one cost = (λ h. (zero, zeros w, omega arith, refl, sym h), last cost)

module _ {P S : Type 0} (ends : P → S → List ℕ → Type 0) (w : ℕ) where
  -- where no end of the parts from some place on is left, none of the product is
  pub ends-stuck : (ps : List P) (ss : List S) (i : ℕ) → AreEndCosts ends w (drop i ps) (drop i ss) [] → AreEndCosts ends w ps ss []
  ends-stuck ps ss zero h = h
  ends-stuck [] [] (suc i) h = h
  ends-stuck [] (s ∷ ss) (suc i) h = λ cost. (λ m. absurd m, λ a. absurd (Any-none (λ e. e ≡ cost) a))
  ends-stuck (p ∷ ps) [] (suc i) h = λ cost. (λ m. absurd m, λ a. absurd (Any-none (λ e. e ≡ cost) a))
  ends-stuck (p ∷ ps) (s ∷ ss) (suc i) h = λ cost. (
    λ m. absurd (Any-none (λ e. e ≡ m.1) ((ends-stuck ps ss i h m.1).0 m.3)),
    λ a. absurd (Any-none (λ e. e ≡ cost) a),
  )

module _ {P S : Type 0} (is_state : P → S → Type 0) (ends : P → S → List ℕ → Type 0) (width top : P → ℕ)
    (end_cost : (p : P) (s : S) (cost : List ℕ) → is_state p s → ends p s cost → IsCost (width p) (top p) cost)
    (w : ℕ) (ps : List P) (agree : (p : P) → Contains ps p → width p ≡ w) (fits : summed top ps < 2 ^ 64) where
  pub can-end-at : (ss : List S) → AreStates is_state ps ss → (i : ℕ) (p : P) (s : S) → i < length ps → p ≡ get_or ps i p → s ≡ get_or ss i s
      → (heads tails : List (List ℕ))
      → ((cost : List ℕ) → ends p s cost ↔ Any (λ e. e ≡ cost) heads) → AreEndCosts ends w (drop (suc i) ps) (drop (suc i) ss) tails
      → (h t : List ℕ) → Contains heads h → Contains tails t → CanAdd h t
  can-end-at ss states i p s lt e f heads tails head tail h t in-h in-t =
      let st = states-at is_state ps ss i p s states lt e f in
      let a = end_cost p s h st ((head h).1 (in-h.0, h, in-h.1, in-h.2, refl)) in
      let a2 = subst (λ n. IsCost n (top p) h) (agree p (i, lt, sym e)) a in
      let b = meet_end-cost is_state width top ends end_cost w (drop (suc i) ps) (λ q k. agree q (Contains-drop ps (suc i) q k)) (drop (suc i) ss) t
      (states-drop is_state ps ss (suc i) states) ((tail t).1 (in-t.0, t, in-t.1, in-t.2, refl)) in
      let low = top-drop top ps i p lt e in
      CanAdd-within w (top p) (summed top (drop (suc i) ps)) h t (omega arith) a2 b
