-- A machine without registers, and the same one with zeros as costs.
use Rattle.std.proofs.Common.{◌≡◌, ℕ, ◌≤◌, ◌↔◌, List, [], ◌∷◌, length, map, refl, ap, sym, ◌∙◌, subst, arith, take}
use Rattle.std.proofs.lemmas.List.{nil_from_length, take_all}
use Rattle.machine_core.specs.Costs.{add_costs, zeros}
use Rattle.machine_core.specs.CostLaws.{zeros-add_costs-zeros, cost_top-zeros}
use Rattle.sv_list.specs.Lists.{Any-map, Any-from_map}
use Rattle.machine_core.specs.declared.edge.Edge.{Edge}
use Rattle.machine_core.specs.declared.end.End.{End}
use Rattle.machine_core.specs.Language.{RunsFrom}
use Rattle.machine_core.specs.Moves.{Moves}
use Rattle.machine_core.specs.Edges.{EndsAt, StepsBy, AreEdgesAndEnds, move_of, wide_edge, wide_end, edges_top, ends_top, listed_top}

module _ (states n : ℕ) (edges : List Edge) (ends : List End) (formed : AreEdgesAndEnds states 0 edges ends) where
  wide-ends-in : (s : ℕ) (cost : List ℕ) → EndsAt (map (wide_end n) ends) s cost → EndsAt ends s [] × (cost ≡ zeros n)
  wide-ends-in s cost a =
      let b = Any-from_map (wide_end n) (λ e. (e.at ≡ s) × (e.cost ≡ cost)) ends a in
      ((b.0, b.1, b.2, b.3, (b.4.0, nil_from_length b.1.cost (formed.ending b.1 (b.0, b.2, b.3)).cost)), sym b.4.1)

  wide-ends-out : (s : ℕ) (cost : List ℕ) → EndsAt ends s [] → cost ≡ zeros n → EndsAt (map (wide_end n) ends) s cost
  wide-ends-out s cost b e = Any-map (wide_end n) (λ e. (e.at ≡ s) × (e.cost ≡ cost)) ends (b.0, b.1, b.2, b.3, (b.4.0, sym e))

  wide-steps-in : (s c : ℕ) (cost : List ℕ) (t : ℕ) → StepsBy (map (wide_edge n) edges) s c cost t → StepsBy edges s c [] t × (cost ≡ zeros n)
  wide-steps-in s c cost t a =
      let b = Any-from_map (wide_edge n) (λ e. (e.from ≡ s) × Moves c cost t (move_of e)) edges a in
      ((b.0, b.1, b.2, b.3, (b.4.0, (b.4.1.0, nil_from_length b.1.cost (formed.edge b.1 (b.0, b.2, b.3)).cost, b.4.1.2))), sym b.4.1.1)

  wide-steps-out : (s c : ℕ) (cost : List ℕ) (t : ℕ) → StepsBy edges s c [] t → cost ≡ zeros n → StepsBy (map (wide_edge n) edges) s c cost t
  wide-steps-out s c cost t b e = Any-map (wide_edge n) (λ e. (e.from ≡ s) × Moves c cost t (move_of e)) edges (b.0, b.1, b.2, b.3, (b.4.0, (b.4.1.0, sym e, b.4.1.2)))

  -- a step of the machine without registers costs nothing
  step-free : (s c : ℕ) (cost : List ℕ) (t : ℕ) → StepsBy edges s c cost t → cost ≡ []
  step-free s c cost t b = sym b.4.1.1 ∙ nil_from_length b.1.cost (formed.edge b.1 (b.0, b.2, b.3)).cost

  wide-runs-in : (word : List ℕ) (s : ℕ) (cost : List ℕ) → RunsFrom (EndsAt (map (wide_end n) ends)) (StepsBy (map (wide_edge n) edges)) s word cost
      → RunsFrom (EndsAt ends) (StepsBy edges) s word [] × (cost ≡ zeros n)
  wide-runs-in [] s cost r = wide-ends-in s cost r
  wide-runs-in (c ∷ word) s cost r =
      let st = wide-steps-in s c r.0 r.1 r.3 in
      let rest = wide-runs-in word r.1 r.2 r.4 in
      (([], r.1, [], st.0, rest.0, refl), r.5 ∙ ap (λ l. add_costs l r.2) st.1 ∙ ap (add_costs (zeros n)) rest.1 ∙ zeros-add_costs-zeros n)

  wide-runs-out : (word : List ℕ) (s : ℕ) (cost : List ℕ) → RunsFrom (EndsAt ends) (StepsBy edges) s word [] → cost ≡ zeros n
      → RunsFrom (EndsAt (map (wide_end n) ends)) (StepsBy (map (wide_edge n) edges)) s word cost
  wide-runs-out [] s cost r e = wide-ends-out s cost r e
  wide-runs-out (c ∷ word) s cost r e =
      let free = step-free s c r.0 r.1 r.3 in
      let step = subst (λ l. StepsBy edges s c l r.1) free r.3 in
      let none : r.2 ≡ [] = rest-free word r.1 r.2 r.4 in
      let rest = subst (λ l. RunsFrom (EndsAt ends) (StepsBy edges) r.1 word l) none r.4 in
      (zeros n, r.1, zeros n, wide-steps-out s c (zeros n) r.1 step refl, wide-runs-out word r.1 (zeros n) rest refl, e ∙ sym (zeros-add_costs-zeros n))
    where
      rest-free : (word : List ℕ) (s : ℕ) (cost : List ℕ) → RunsFrom (EndsAt ends) (StepsBy edges) s word cost → cost ≡ []
      rest-free [] s cost a = sym a.4.1 ∙ nil_from_length a.1.cost (formed.ending a.1 (a.0, a.2, a.3)).cost
      rest-free (c ∷ word) s cost r = r.5 ∙ ap (λ l. add_costs l r.2) (step-free s c r.0 r.1 r.3)

  pub wide-runs : (word cost : List ℕ) → RunsFrom (EndsAt (map (wide_end n) ends)) (StepsBy (map (wide_edge n) edges)) 0 word cost
      ↔ (RunsFrom (EndsAt ends) (StepsBy edges) 0 word [] × (cost ≡ zeros n))
  wide-runs word cost = (wide-runs-in word 0 cost, λ p. wide-runs-out word 0 cost p.0 p.1)

pub wide-top : (n : ℕ) (edges : List Edge) (ends : List End) → listed_top (map (wide_edge n) edges) (map (wide_end n) ends) ≡ 0
wide-top n edges ends = let a = of_edges edges in let b = of_ends ends in omega arith
  where
    of_edges : (edges : List Edge) → edges_top (map (wide_edge n) edges) ≡ 0
    of_edges [] = refl
    of_edges (e ∷ es) = let r = of_edges es in let z = cost_top-zeros n in omega arith

    of_ends : (ends : List End) → ends_top (map (wide_end n) ends) ≡ 0
    of_ends [] = refl
    of_ends (e ∷ es) = let r = of_ends es in let z = cost_top-zeros n in omega arith

pub took-all : {X : Type 0} (xs ys : List X) (i : ℕ) → ys ≡ xs → length ys ≤ i → take i xs ≡ xs
took-all xs ys i e h = take_all i xs (subst (λ l. length l ≤ i) e h)
