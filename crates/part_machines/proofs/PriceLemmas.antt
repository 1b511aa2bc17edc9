-- A machine without registers, and the same one with a cost for each character.
use Rattle.std.proofs.Common.{◌≡◌, ℕ, suc, ◌+◌, ◌*◌, ◌<◌, ◌≤◌, ◌↔◌, List, [], ◌∷◌, ◌++◌, length, map, refl, ap, sym, ◌∙◌, subst, arith, get_or, take}
use Rattle.std.specs.Prelude.{slice_index}
use Rattle.std.proofs.lemmas.List.{map_more, nil_from_length}
use Rattle.std.proofs.Math.Nat.{suc-mul}
use Rattle.machine_core.specs.Costs.{add_costs, zeros}
use Rattle.machine_core.specs.CostLaws.{zeros-entry}
use Rattle.sv_list.specs.Lists.{Any-map, Any-from_map}
use Rattle.machine_core.specs.declared.graph.Graph.{Graph}
use Rattle.machine_core.specs.declared.edge.Edge.{Edge}
use Rattle.machine_core.specs.declared.end.End.{End}
use Rattle.machine_core.specs.Language.{RunsFrom}
use Rattle.machine_core.specs.RunBounds.{runs_from_steps, paths_from_steps}
use Rattle.machine_core.specs.Moves.{Moves}
use Rattle.machine_core.specs.Edges.{EndsAt, StepsBy, AreEdgesAndEnds, move_of, wide_end}
use Rattle.machine_core.specs.EdgeLaws.{step_target}
use Rattle.part_machines.specs.Parts.{IsPriced, priced_edge, times}

times-none : (each : List ℕ) → times 0 each ≡ zeros (length each)
times-none [] = refl
times-none (k ∷ each) = let here : 0 * k ≡ 0 = omega arith in let rest = times-none each in cc

times-more : (n : ℕ) (each : List ℕ) → add_costs each (times n each) ≡ times (suc n) each
times-more n [] = refl
times-more n (k ∷ each) =
    let here : k + n * k ≡ suc n * k = (let e = suc-mul n k in omega (arith, e)) in
    let rest = times-more n each in
    cc

module _ (states : ℕ) (each : List ℕ) (edges : List Edge) (ends : List End) (formed : AreEdgesAndEnds states 0 edges ends) where
  priced-ends-in : (s : ℕ) (cost : List ℕ) → EndsAt (map (wide_end (length each)) ends) s cost → EndsAt ends s [] × (cost ≡ zeros (length each))
  priced-ends-in s cost a =
      let b = Any-from_map (wide_end (length each)) (λ e. (e.at ≡ s) × (e.cost ≡ cost)) ends a in
      ((b.0, b.1, b.2, b.3, (b.4.0, nil_from_length b.1.cost (formed.ending b.1 (b.0, b.2, b.3)).cost)), sym b.4.1)

  priced-ends-out : (s : ℕ) (cost : List ℕ) → EndsAt ends s [] → cost ≡ zeros (length each) → EndsAt (map (wide_end (length each)) ends) s cost
  priced-ends-out s cost b e = Any-map (wide_end (length each)) (λ e. (e.at ≡ s) × (e.cost ≡ cost)) ends (b.0, b.1, b.2, b.3, (b.4.0, sym e))

  pub priced-steps-in : (s c : ℕ) (cost : List ℕ) (t : ℕ) → StepsBy (map (priced_edge each) edges) s c cost t → StepsBy edges s c [] t × (cost ≡ each)
  priced-steps-in s c cost t a =
      let b = Any-from_map (priced_edge each) (λ e. (e.from ≡ s) × Moves c cost t (move_of e)) edges a in
      ((b.0, b.1, b.2, b.3, (b.4.0, (b.4.1.0, nil_from_length b.1.cost (formed.edge b.1 (b.0, b.2, b.3)).cost, b.4.1.2))), sym b.4.1.1)

  priced-steps-out : (s c : ℕ) (cost : List ℕ) (t : ℕ) → StepsBy edges s c [] t → cost ≡ each → StepsBy (map (priced_edge each) edges) s c cost t
  priced-steps-out s c cost t b e = Any-map (priced_edge each) (λ e. (e.from ≡ s) × Moves c cost t (move_of e)) edges (b.0, b.1, b.2, b.3, (b.4.0, (b.4.1.0, sym e, b.4.1.2)))

  -- a step of the machine without registers costs nothing
  step-free : (s c : ℕ) (cost : List ℕ) (t : ℕ) → StepsBy edges s c cost t → cost ≡ []
  step-free s c cost t b = sym b.4.1.1 ∙ nil_from_length b.1.cost (formed.edge b.1 (b.0, b.2, b.3)).cost

  rest-free : (word : List ℕ) (s : ℕ) (cost : List ℕ) → RunsFrom (EndsAt ends) (StepsBy edges) s word cost → cost ≡ []
  rest-free [] s cost a = sym a.4.1 ∙ nil_from_length a.1.cost (formed.ending a.1 (a.0, a.2, a.3)).cost
  rest-free (c ∷ word) s cost r = r.5 ∙ ap (λ l. add_costs l r.2) (step-free s c r.0 r.1 r.3)

  priced-in : (word : List ℕ) (s : ℕ) (cost : List ℕ) → RunsFrom (EndsAt (map (wide_end (length each)) ends)) (StepsBy (map (priced_edge each) edges)) s word cost
      → RunsFrom (EndsAt ends) (StepsBy edges) s word [] × (cost ≡ times (length word) each)
  priced-in [] s cost r = let e = priced-ends-in s cost r in (e.0, e.1 ∙ sym (times-none each))
  priced-in (c ∷ word) s cost r =
      let st = priced-steps-in s c r.0 r.1 r.3 in
      let rest = priced-in word r.1 r.2 r.4 in
      (([], r.1, [], st.0, rest.0, refl), r.5 ∙ ap (λ l. add_costs l r.2) st.1 ∙ ap (add_costs each) rest.1 ∙ times-more (length word) each)

  priced-out : (word : List ℕ) (s : ℕ) (cost : List ℕ) → RunsFrom (EndsAt ends) (StepsBy edges) s word [] → cost ≡ times (length word) each
      → RunsFrom (EndsAt (map (wide_end (length each)) ends)) (StepsBy (map (priced_edge each) edges)) s word cost
  priced-out [] s cost r e = priced-ends-out s cost r (e ∙ times-none each)
  priced-out (c ∷ word) s cost r e =
      let free = step-free s c r.0 r.1 r.3 in
      let step = subst (λ l. StepsBy edges s c l r.1) free r.3 in
      let none : r.2 ≡ [] = rest-free word r.1 r.2 r.4 in
      let rest = subst (λ l. RunsFrom (EndsAt ends) (StepsBy edges) r.1 word l) none r.4 in
      (each, r.1, times (length word) each, priced-steps-out s c each r.1 step refl, priced-out word r.1 (times (length word) each) rest refl, e ∙ sym (times-more (length word) each))

pub is-priced : (each : List ℕ) (m n : Graph) → m.registers ≡ 0 → n.registers ≡ length each → n.states ≡ m.states → n.edges ≡ map (priced_edge each) m.edges → n.ends ≡ map (wide_end (length each)) m.ends → IsPriced each m n
is-priced each m n plain registers states edges ends = record {
  registers = registers;
  states = states;
  words = λ word cost. subst (λ es. RunsFrom (EndsAt n.ends) (StepsBy es) 0 word cost ↔ (RunsFrom (EndsAt m.ends) (StepsBy m.edges) 0 word [] × (cost ≡ times (length word) each))) (sym edges)
      (subst (λ es. RunsFrom (EndsAt es) (StepsBy (map (priced_edge each) m.edges)) 0 word cost ↔ (RunsFrom (EndsAt m.ends) (StepsBy m.edges) 0 word [] × (cost ≡ times (length word) each))) (sym ends)
      (priced-in m.states each m.edges m.ends formed word 0 cost, λ p. priced-out m.states each m.edges m.ends formed word 0 cost p.0 p.1));
  runs = λ register. runs_from_steps (λ s. s < n.states) (StepsBy n.edges) register (slice_index each register) target (step-most register) (EndsAt n.ends) 0 (end-most register);
  paths = λ register. paths_from_steps (λ s. s < n.states) (StepsBy n.edges) register (slice_index each register) target (step-most register) n.registers;
}
  where
    formed : AreEdgesAndEnds m.states 0 m.edges m.ends
    formed = subst (λ k. AreEdgesAndEnds m.states k m.edges m.ends) plain m.formed

    target : (s t c : ℕ) (cost : List ℕ) → s < n.states → StepsBy n.edges s c cost t → t < n.states
    target s t c cost h st = step_target n.states n.registers n.edges n.ends n.formed s t c cost st

    step-most : (register s t c : ℕ) (cost : List ℕ) → s < n.states → StepsBy n.edges s c cost t → slice_index cost register ≤ slice_index each register
    step-most register s t c cost h st =
        let p = priced-steps-in m.states each m.edges m.ends formed s c cost t (subst (λ es. StepsBy es s c cost t) edges st) in
        let e = ap (λ k. slice_index k register) p.1 in
        omega (arith, e)

    end-most : (register s : ℕ) (cost : List ℕ) → s < n.states → EndsAt n.ends s cost → slice_index cost register ≤ 0
    end-most register s cost h en =
        let p = priced-ends-in m.states each m.edges m.ends formed s cost (subst (λ es. EndsAt es s cost) ends en) in
        let e = ap (λ k. slice_index k register) p.1 in
        let z = zeros-entry (length each) register in
        omega (arith, e, z)

-- one element more of a list that a loop makes
pub made-more : {X Y : Type 0} (f : X → Y) (xs ys : List X) (old new : List Y) (i : ℕ) (x : X) → ys ≡ xs → i < length ys → x ≡ get_or ys i x
    → old ≡ map f (take i xs) → new ≡ old ++ f x ∷ [] → new ≡ map f (take (i + 1) xs)
made-more f xs ys old new i x e lt is before made =
    let at : x ≡ get_or xs i x = subst (λ l. x ≡ get_or l i x) e is in
    made ∙ ap (λ l. l ++ f x ∷ []) before ∙ ap (λ y. map f (take i xs) ++ f y ∷ []) at ∙ sym (map_more f xs i x (subst (λ l. i < length l) e lt))
