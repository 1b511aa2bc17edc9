-- The steps and ends of a machine whose words are repeated.
use Rattle.std.proofs.Common.{◌≡◌, ℕ, ◌+◌, ◌<◌, ◌≤◌, ◌↔◌, ◌⊎◌, inl, inr, List, [], ◌∷◌, ◌++◌, length, map, take, get_or, Any, Contains, refl, ap, sym, ◌∙◌, subst, arith, add-one}
use Rattle.std.proofs.lemmas.List.{nil_from_length}
use Rattle.machine_core.specs.declared.edge.Edge.{Edge}
use Rattle.machine_core.specs.declared.end.End.{End}
use Rattle.machine_core.specs.declared.graph.Graph.{Graph}
use Rattle.machine_core.specs.declared.machine.Move.{Move}
use Rattle.machine_core.specs.Costs.{add_costs, cost_top}
use Rattle.machine_core.specs.CostLaws.{top_by-least}
use Rattle.sv_list.specs.Lists.{Any-none, Any-here, Any-cases}
use Rattle.machine_core.specs.Moves.{Moves}
use Rattle.machine_core.specs.Edges.{edge, ending, move_of, EndsAt, StepsBy}
use Rattle.machine_core.specs.EdgeLaws.{step_target, step_cost, end_cost}
use Rattle.machine_core.specs.Graphs.{Accepts, graph_top}
use Rattle.machine_meet.specs.Builds.{placed_edge, leaving_edge, Returns, Repeated}
use Rattle.machine_meet.proofs.JoinLemmas.{take-push}
use Rattle.machine_meet.proofs.BuildEdges.{placed-steps, leaving-steps, steps-append}
use Rattle.machine_meet.proofs.BuildRuns.{star-runs}

single-step : (e : Edge) (s c : ℕ) (k : List ℕ) (t : ℕ) → StepsBy (e ∷ []) s c k t → (e.from ≡ s) × Moves c k t (move_of e)
single-step e s c k t a = let P : Edge → Type 0 = λ e. (e.from ≡ s) × Moves c k t (move_of e) in
    elim (Any-cases P e [] a) [ inl h ↦ h | inr h ↦ absurd (Any-none P h) ]

pub returns-start : (w : Graph) (ends : List End) → Returns w w [] ends
returns-start w ends = record {
  states = refl;
  registers = refl;
  ends_are = refl;
  steps = λ s c k t. (λ a. inl a, λ a. elim a [ inl h ↦ h | inr h ↦ absurd (Any-none (λ (e : Edge). (e.from ≡ h.0) × Moves c [] h.1 (move_of e)) h.3) ]);
}

pub returns-next : (w0 w1 w2 : Graph) (edges : List Edge) (ends : List End) (i : ℕ) (e : Edge) → i < length edges → e ≡ get_or edges i e
    → Returns w0 w1 (take i edges) ends → Returns w1 w2 (e ∷ []) ends → Returns w0 w2 (take (i + 1) edges) ends
returns-next w0 w1 w2 edges ends i e lt is g h =
    let grown : take (i + 1) edges ≡ take i edges ++ e ∷ [] = rw add-one (take-push edges i e lt ∙ ap (λ x. take i edges ++ x ∷ []) (sym is)) in
    subst (λ l. Returns w0 w2 l ends) (sym grown) (record {
      states = h.states ∙ g.states;
      registers = h.registers ∙ g.registers;
      ends_are = h.ends_are ∙ g.ends_are;
      steps = λ s c k t. (
        λ a. elim ((h.steps s c k t).0 a) [
          | inl x ↦ elim ((g.steps s c k t).0 x) [
            | inl y ↦ inl y
            | inr y ↦ inr (y.0, y.1, y.2, (steps-append (take i edges) (e ∷ []) y.0 c [] y.1).1 (inl y.3), y.4, y.5, y.6)
          ]
          | inr x ↦ inr (x.0, x.1, x.2, (steps-append (take i edges) (e ∷ []) x.0 c [] x.1).1 (inr x.3), x.4, x.5, x.6)
        ],
        λ a. elim a [
          | inl x ↦ (h.steps s c k t).1 (inl ((g.steps s c k t).1 (inl x)))
          | inr x ↦ elim ((steps-append (take i edges) (e ∷ []) x.0 c [] x.1).0 x.3) [
            | inl y ↦ (h.steps s c k t).1 (inl ((g.steps s c k t).1 (inr (x.0, x.1, x.2, y, x.4, x.5, x.6))))
            | inr y ↦ (h.steps s c k t).1 (inr (x.0, x.1, x.2, y, x.4, x.5, x.6))
          ]
        ],
      );
    })

-- an edge to a state where no word ends
pub returns-none : (w : Graph) (e : Edge) (ends : List End) (costs : List (List ℕ)) → ((k : List ℕ) → EndsAt ends e.to k ↔ Any (λ x. x ≡ k) costs) → costs ≡ []
    → Returns w w (e ∷ []) ends
returns-none w e ends costs exact none = record {
  states = refl;
  registers = refl;
  ends_are = refl;
  steps = λ s c k t. (
    λ a. inl a,
    λ a. elim a [
      | inl h ↦ h
      | inr h ↦
          let one = single-step e h.0 c [] h.1 h.3 in
          let last = subst (λ n. EndsAt ends n []) (sym one.1.2) h.4 in
          absurd (Any-none (λ (x : List ℕ). x ≡ []) (subst (Any (λ x. x ≡ [])) none ((exact []).0 last)))
    ],
  );
}

-- an edge to a state where words end
pub returns-one : (old new part : Graph) (e : Edge) (costs : List (List ℕ)) → part.registers ≡ 0 → Contains part.edges e
    → ((k : List ℕ) → EndsAt part.ends e.to k ↔ Any (λ x. x ≡ k) costs) → (costs ≡ [] → ⊥)
    → new.states ≡ old.states → new.registers ≡ old.registers → new.ends ≡ old.ends → new.edges ≡ old.edges ++ edge (1 + e.from) e.on [] 0 ∷ []
    → Returns old new (e ∷ []) part.ends
returns-one old new part e costs free i exact some p q r edges = record {
  states = p;
  registers = q;
  ends_are = r;
  steps = λ s c k t.
      let app = steps-append old.edges (edge (1 + e.from) e.on [] 0 ∷ []) s c k t in (
        λ a. elim (app.0 (subst (λ l. StepsBy l s c k t) edges a)) [
          | inl h ↦ inl h
          | inr h ↦
              let one = single-step (edge (1 + e.from) e.on [] 0) s c k t h in
              inr (e.from, e.to, sym one.0, (0, e, omega arith, refl, (refl, (one.1.0, bare, refl))), last costs exact some, sym one.1.1, sym one.1.2)
        ],
        λ a. subst (λ l. StepsBy l s c k t) (sym edges) (elim a [
          | inl h ↦ app.1 (inl h)
          | inr h ↦
              let one = single-step e h.0 c [] h.1 h.3 in
              app.1 (inr (0, edge (1 + e.from) e.on [] 0, omega arith, refl, (ap (λ n. 1 + n) one.0 ∙ sym h.2, (one.1.0, sym h.5, sym h.6))))
        ]),
      );
}
  where
    bare : e.cost ≡ []
    bare = nil_from_length e.cost ((part.formed.edge e i).cost ∙ free)

    last : (costs : List (List ℕ)) → ((k : List ℕ) → EndsAt part.ends e.to k ↔ Any (λ x. x ≡ k) costs) → (costs ≡ [] → ⊥) → EndsAt part.ends e.to []
    last [] exact some = absurd (some refl)
    last (k ∷ ks) exact some =
        let at = (exact k).1 (Any-here (λ x. x ≡ k) k ks refl) in
        let none = nil_from_length k ((end_cost part.states part.registers part.edges part.ends part.formed e.to k at).entries ∙ free) in
        subst (EndsAt part.ends e.to) none at

module _ (w1 w2 w4 a : Graph) (moves : List (Move ℕ)) (free : a.registers ≡ 0) (placed : w1.edges ≡ map (placed_edge 1) a.edges) (back : Returns w1 w2 a.edges a.ends)
    (exact : (c : ℕ) (k : List ℕ) (t : ℕ) → StepsBy w2.edges 1 c k t ↔ Any (Moves c k t) moves)
    (edges : w4.edges ≡ w2.edges ++ map (leaving_edge 0 0) moves) (ends : w4.ends ≡ ending 0 [] ∷ []) where
  free-step : (u c v : ℕ) (k : List ℕ) → StepsBy a.edges u c k v → k ≡ []
  free-step u c v k m = nil_from_length k ((step_cost a.states a.registers a.edges a.ends a.formed u v c k m).entries ∙ free)

  free-end : (u : ℕ) (k : List ℕ) → EndsAt a.ends u k → k ≡ []
  free-end u k m = nil_from_length k ((end_cost a.states a.registers a.edges a.ends a.formed u k m).entries ∙ free)

  star-ends : (u : ℕ) (k : List ℕ) → EndsAt w4.ends u k ↔ ((u ≡ 0) × (k ≡ []))
  star-ends u k = let P : End → Type 0 = λ e. (e.at ≡ u) × (e.cost ≡ k) in (
    λ h. elim (Any-cases P (ending 0 []) [] (subst (λ l. EndsAt l u k) ends h)) [ inl x ↦ (sym x.0, sym x.1) | inr x ↦ absurd (Any-none P x) ],
    λ h. subst (λ l. EndsAt l u k) (sym ends) (Any-here P (ending 0 []) [] (sym h.0, sym h.1)),
  )

  -- the steps before the start has its own
  inner-steps : (u c : ℕ) (k : List ℕ) (t : ℕ) → StepsBy w2.edges (1 + u) c k t ↔ (((v : ℕ) × (t ≡ 1 + v) × StepsBy a.edges u c k v)
      ⊎ ((x y : List ℕ) × (v : ℕ) × StepsBy a.edges u c x v × EndsAt a.ends v y × (k ≡ add_costs x y) × (t ≡ 0)))
  inner-steps u c k t = (
    λ h. elim ((back.steps (1 + u) c k t).0 h) [
      | inl x ↦
          let z = (placed-steps 1 a.edges (1 + u) c k t).0 (subst (λ l. StepsBy l (1 + u) c k t) placed x) in
          let same : z.0 ≡ u = omega (arith, z.2) in
          inl (z.1, z.3, subst (λ n. StepsBy a.edges n c k z.1) same z.4)
      | inr x ↦
          let same : x.0 ≡ u = omega (arith, x.2) in
          inr ([], [], x.1, subst (λ n. StepsBy a.edges n c [] x.1) same x.3, x.4, x.5, x.6)
    ],
    λ h. elim h [
      | inl x ↦ (back.steps (1 + u) c k t).1 (inl (subst (λ l. StepsBy l (1 + u) c k t) (sym placed) ((placed-steps 1 a.edges (1 + u) c k t).1 (u, x.0, refl, x.1, x.2))))
      | inr x ↦
          let one = free-step u c x.2 x.0 x.3 in
          let two = free-end x.2 x.1 x.4 in
          let none : k ≡ [] = x.5 ∙ ap (λ l. add_costs l x.1) one in
          (back.steps (1 + u) c k t).1 (inr (u, x.2, refl, subst (λ l. StepsBy a.edges u c l x.2) one x.3, subst (EndsAt a.ends x.2) two x.4, none, x.6))
    ],
  )

  whole-steps : (s c : ℕ) (k : List ℕ) (t : ℕ) → StepsBy w4.edges s c k t ↔ (StepsBy w2.edges s c k t ⊎ StepsBy (map (leaving_edge 0 0) moves) s c k t)
  whole-steps s c k t =
      let app = steps-append w2.edges (map (leaving_edge 0 0) moves) s c k t in
      (λ h. app.0 (subst (λ l. StepsBy l s c k t) edges h), λ h. subst (λ l. StepsBy l s c k t) (sym edges) (app.1 h))

  later-steps : (u c : ℕ) (k : List ℕ) (t : ℕ) → StepsBy w4.edges (1 + u) c k t ↔ StepsBy w2.edges (1 + u) c k t
  later-steps u c k t = (
    λ h. elim ((whole-steps (1 + u) c k t).0 h) [
      | inl x ↦ x
      | inr x ↦ let z = (leaving-steps 0 0 moves (1 + u) c k t).0 x in absurd (omega (arith, z.1))
    ],
    λ h. (whole-steps (1 + u) c k t).1 (inl h),
  )

  start-none : (c : ℕ) (k : List ℕ) (t : ℕ) → StepsBy w2.edges 0 c k t → ⊥
  start-none c k t h = elim ((back.steps 0 c k t).0 h) [
    | inl x ↦ let z = (placed-steps 1 a.edges 0 c k t).0 (subst (λ l. StepsBy l 0 c k t) placed x) in omega (arith, z.2)
    | inr x ↦ omega (arith, x.2)
  ]

  star-starts : (c : ℕ) (k : List ℕ) (t : ℕ) → StepsBy w4.edges 0 c k t ↔ StepsBy w4.edges 1 c k t
  star-starts c k t = (
    λ h. elim ((whole-steps 0 c k t).0 h) [
      | inl x ↦ absurd (start-none c k t x)
      | inr x ↦
          let z = (leaving-steps 0 0 moves 0 c k t).0 x in
          let same : z.0 ≡ t = omega (arith, z.2) in
          (later-steps 0 c k t).1 (subst (StepsBy w2.edges 1 c k) same ((exact c k z.0).1 z.3))
    ],
    λ h. (whole-steps 0 c k t).1 (inr ((leaving-steps 0 0 moves 0 c k t).1 (t, refl, omega arith, (exact c k t).0 ((later-steps 0 c k t).0 h)))),
  )

  star-steps : (u c : ℕ) (k : List ℕ) (t : ℕ) → u < a.states → StepsBy w4.edges (1 + u) c k t ↔ (((v : ℕ) × (t ≡ 1 + v) × StepsBy a.edges u c k v)
      ⊎ ((x y : List ℕ) × (v : ℕ) × StepsBy a.edges u c x v × EndsAt a.ends v y × (k ≡ add_costs x y) × (t ≡ 0)))
  star-steps u c k t lt = (λ h. (inner-steps u c k t).0 ((later-steps u c k t).0 h), λ h. (later-steps u c k t).1 ((inner-steps u c k t).1 h))

  pub star-language : (word cost : List ℕ) → Accepts w4 word cost ↔ (Repeated (λ w. Accepts a w []) word × (cost ≡ []))
  star-language word cost = star-runs (EndsAt w4.ends) (StepsBy w4.edges) (EndsAt a.ends) (StepsBy a.edges) a.states a.started
      (λ u c v k m. step_target a.states a.registers a.edges a.ends a.formed u v c k m) free-step free-end star-ends star-steps star-starts word cost

free-cost : (cost : List ℕ) → length cost ≡ 0 → cost_top cost ≤ 0
free-cost [] e = omega arith
free-cost (x ∷ xs) e = absurd (omega arith)

-- without registers nothing costs anything
pub free-top : (m : Graph) → m.registers ≡ 0 → graph_top m ≡ 0
free-top m e =
    let edges = top_by-least (λ (x : Edge). cost_top x.cost) m.edges 0 (λ x k. free-cost x.cost ((m.formed.edge x k).cost ∙ e)) in
    let ends = top_by-least (λ (x : End). cost_top x.cost) m.ends 0 (λ x k. free-cost x.cost ((m.formed.ending x k).cost ∙ e)) in
    omega arith
