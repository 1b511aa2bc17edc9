-- The steps and ends of machines that are put together, from their lists of edges and ends.
use Rattle.std.proofs.Common.{◌≡◌, ℕ, ◌+◌, ◌<◌, ◌≤◌, max, ◌↔◌, ◌⊎◌, inl, inr, List, [], ◌++◌, map, Any, Contains, All, refl, ap, sym, ◌∙◌, subst, arith}
use Rattle.sv_word.specs.Ranges.{IsInhabited, least_of}
use Rattle.machine_core.specs.declared.edge.Edge.{Edge}
use Rattle.machine_core.specs.declared.end.End.{End}
use Rattle.machine_core.specs.declared.graph.Graph.{Graph}
use Rattle.machine_core.specs.declared.machine.Move.{Move}
use Rattle.machine_core.specs.Costs.{IsCost, cost_top}
use Rattle.machine_core.specs.CostLaws.{top_by-least, cost_top-least}
use Rattle.sv_list.specs.Lists.{Any-none, Any-append_left, Any-append_right, Any-append_cases, Any-map, Any-from_map}
use Rattle.machine_core.specs.Moves.{Moves, IsMove}
use Rattle.machine_core.specs.Edges.{ending, move_of, EndsAt, StepsBy, AreEdgesAndEnds, edges_top, ends_top, listed_top}
use Rattle.machine_core.specs.EdgeLaws.{step_target, step_cost, end_cost}
use Rattle.machine_core.specs.Graphs.{Accepts, graph_top}
use Rattle.machine_meet.specs.Builds.{placed_edge, placed_end, leaving_edge, StandsFor, IsBranch}
use Rattle.machine_meet.proofs.BuildRuns.{IsPlaced, union-runs}

-- an edge is of a step on its least character
pub edge-steps : (states width : ℕ) (edges : List Edge) (ends : List End) → AreEdgesAndEnds states width edges ends → (e : Edge) → Contains edges e → StepsBy edges e.from (least_of e.on) e.cost e.to
edge-steps states width edges ends formed e i = (i.0, e, i.1, i.2, (refl, ((formed.edge e i).on, refl, refl)))

-- bounds on what steps and ends cost bound the greatest cost
pub top-within : (states width bound : ℕ) (edges : List Edge) (ends : List End) → AreEdgesAndEnds states width edges ends
    → ((s c : ℕ) (k : List ℕ) (t : ℕ) → StepsBy edges s c k t → IsCost width bound k) → ((s : ℕ) (k : List ℕ) → EndsAt ends s k → IsCost width bound k)
    → listed_top edges ends ≤ bound
top-within states width bound edges ends formed steps last =
    let e : edges_top edges ≤ bound = top_by-least (λ (e : Edge). cost_top e.cost) edges bound (λ e i. cost_top-least e.cost bound
    (steps e.from (least_of e.on) e.cost e.to (edge-steps states width edges ends formed e i)).below) in
    let f : ends_top ends ≤ bound = top_by-least (λ (e : End). cost_top e.cost) ends bound (λ e i. cost_top-least e.cost bound
    (last e.at e.cost (i.0, e, i.1, i.2, (refl, refl))).below) in
    omega arith

-- what leaves a state of a well-formed machine leaves one of its states
pub step-source : (states width : ℕ) (edges : List Edge) (ends : List End) → AreEdgesAndEnds states width edges ends
    → (s c t : ℕ) (k : List ℕ) → StepsBy edges s c k t → s < states
step-source states width edges ends formed s c t k m = subst (λ n. n < states) m.4.0 (formed.edge m.1 (m.0, m.2, m.3)).from

pub end-source : (states width : ℕ) (edges : List Edge) (ends : List End) → AreEdgesAndEnds states width edges ends
    → (s : ℕ) (k : List ℕ) → EndsAt ends s k → s < states
end-source states width edges ends formed s k m = subst (λ n. n < states) m.4.0 (formed.ending m.1 (m.0, m.2, m.3)).at

pub placed-steps : (offset : ℕ) (edges : List Edge) (s c : ℕ) (k : List ℕ) (t : ℕ) → StepsBy (map (placed_edge offset) edges) s c k t
    ↔ ((u v : ℕ) × (s ≡ offset + u) × (t ≡ offset + v) × StepsBy edges u c k v)
placed-steps offset edges s c k t = let P : Edge → Type 0 = λ e. (e.from ≡ s) × Moves c k t (move_of e) in (
  λ a. let b = Any-from_map (placed_edge offset) P edges a in
      (b.1.from, b.1.to, sym b.4.0, sym b.4.1.2, (b.0, b.1, b.2, b.3, (refl, (b.4.1.0, b.4.1.1, refl)))),
  λ h. let b = h.4 in
      Any-map (placed_edge offset) P edges (b.0, b.1, b.2, b.3, (ap (λ n. offset + n) b.4.0 ∙ sym h.2, (b.4.1.0, b.4.1.1, ap (λ n. offset + n) b.4.1.2 ∙ sym h.3))),
)

pub placed-ends : (offset : ℕ) (ends : List End) (s : ℕ) (k : List ℕ) → EndsAt (map (placed_end offset) ends) s k ↔ ((u : ℕ) × (s ≡ offset + u) × EndsAt ends u k)
placed-ends offset ends s k = let P : End → Type 0 = λ e. (e.at ≡ s) × (e.cost ≡ k) in (
  λ a. let b = Any-from_map (placed_end offset) P ends a in (b.1.at, sym b.4.0, (b.0, b.1, b.2, b.3, (refl, b.4.1))),
  λ h. let b = h.2 in Any-map (placed_end offset) P ends (b.0, b.1, b.2, b.3, (ap (λ n. offset + n) b.4.0 ∙ sym h.1, b.4.1)),
)

pub leaving-steps : (from offset : ℕ) (moves : List (Move ℕ)) (s c : ℕ) (k : List ℕ) (t : ℕ) → StepsBy (map (leaving_edge from offset) moves) s c k t
    ↔ ((v : ℕ) × (s ≡ from) × (t ≡ offset + v) × Any (Moves c k v) moves)
leaving-steps from offset moves s c k t = let P : Edge → Type 0 = λ e. (e.from ≡ s) × Moves c k t (move_of e) in (
  λ a. let b = Any-from_map (leaving_edge from offset) P moves a in (b.1.to, sym b.4.0, sym b.4.1.2, (b.0, b.1, b.2, b.3, (b.4.1.0, b.4.1.1, refl))),
  λ h. let b = h.3 in Any-map (leaving_edge from offset) P moves (b.0, b.1, b.2, b.3, (sym h.1, (b.4.0, b.4.1, ap (λ n. offset + n) b.4.2 ∙ sym h.2))),
)

pub leaving-ends : (from : ℕ) (costs : List (List ℕ)) (s : ℕ) (k : List ℕ) → EndsAt (map (ending from) costs) s k ↔ ((s ≡ from) × Any (λ e. e ≡ k) costs)
leaving-ends from costs s k = let P : End → Type 0 = λ e. (e.at ≡ s) × (e.cost ≡ k) in (
  λ a. let b = Any-from_map (ending from) P costs a in (sym b.4.0, (b.0, b.1, b.2, b.3, b.4.1)),
  λ h. let b = h.1 in Any-map (ending from) P costs (b.0, b.1, b.2, b.3, (sym h.0, b.4)),
)

pub steps-append : (xs ys : List Edge) (s c : ℕ) (k : List ℕ) (t : ℕ) → StepsBy (xs ++ ys) s c k t ↔ (StepsBy xs s c k t ⊎ StepsBy ys s c k t)
steps-append xs ys s c k t = let P : Edge → Type 0 = λ e. (e.from ≡ s) × Moves c k t (move_of e) in
    (λ a. Any-append_cases P xs ys a, λ h. elim h [ inl a ↦ Any-append_left P xs ys a | inr a ↦ Any-append_right P xs ys a ])

pub ends-append : (xs ys : List End) (s : ℕ) (k : List ℕ) → EndsAt (xs ++ ys) s k ↔ (EndsAt xs s k ⊎ EndsAt ys s k)
ends-append xs ys s k = let P : End → Type 0 = λ e. (e.at ≡ s) × (e.cost ≡ k) in
    (λ a. Any-append_cases P xs ys a, λ h. elim h [ inl a ↦ Any-append_left P xs ys a | inr a ↦ Any-append_right P xs ys a ])

-- the moves that leave a state of a well-formed machine
pub moves-formed : (states width : ℕ) (edges : List Edge) (ends : List End) → AreEdgesAndEnds states width edges ends → (s : ℕ) (moves : List (Move ℕ))
    → ((c : ℕ) (k : List ℕ) (t : ℕ) → StepsBy edges s c k t ↔ Any (Moves c k t) moves) → All (λ m. IsInhabited m.on) moves
    → (m : Move ℕ) → Contains moves m → IsMove states width m
moves-formed states width edges ends formed s moves exact inhabited m i =
    let on = subst (λ (x : Move ℕ). IsInhabited x.on) i.2 (inhabited i.0 m i.1) in
    let step = (exact (least_of m.on) m.cost m.to).1 (i.0, m, i.1, i.2, (on, refl, refl)) in
    record {
      on = on;
      cost = (step_cost states width edges ends formed s m.to (least_of m.on) m.cost step).entries;
      to = step_target states width edges ends formed s m.to (least_of m.on) m.cost step;
    }

-- the edges of a branch: those of the part, and the moves of its start
pub branch-steps : (offset : ℕ) (old new part : List Edge) (moves : List (Move ℕ)) → new ≡ (old ++ map (placed_edge offset) part) ++ map (leaving_edge 0 offset) moves
    → ((c : ℕ) (k : List ℕ) (t : ℕ) → StepsBy part 0 c k t ↔ Any (Moves c k t) moves)
    → (s c : ℕ) (k : List ℕ) (t : ℕ) → StepsBy new s c k t
    ↔ (StepsBy old s c k t ⊎ ((u v : ℕ) × StandsFor offset s u × (t ≡ offset + v) × StepsBy part u c k v))
branch-steps offset old new part moves is exact s c k t =
    let placed = placed-steps offset part s c k t in
    let left = leaving-steps 0 offset moves s c k t in
    let one = steps-append (old ++ map (placed_edge offset) part) (map (leaving_edge 0 offset) moves) s c k t in
    let two = steps-append old (map (placed_edge offset) part) s c k t in (
      λ a. elim (one.0 (subst (λ x. StepsBy x s c k t) is a)) [
        | inl b ↦ elim (two.0 b) [ inl d ↦ inl d | inr d ↦ let h = placed.0 d in inr (h.0, h.1, inl h.2, h.3, h.4) ]
        | inr b ↦ let h = left.0 b in inr (0, h.0, inr (h.1, refl), h.2, (exact c k h.0).1 h.3)
      ],
      λ a. subst (λ x. StepsBy x s c k t) (sym is) (elim a [
        | inl b ↦ one.1 (inl (two.1 (inl b)))
        | inr b ↦ elim b.2 [
          | inl d ↦ one.1 (inl (two.1 (inr (placed.1 (b.0, b.1, d, b.3, b.4)))))
          | inr d ↦ one.1 (inr (left.1 (b.1, d.0, b.3, (exact c k b.1).0 (subst (λ u. StepsBy part u c k b.1) d.1 b.4))))
        ]
      ]),
    )

pub branch-ends : (offset : ℕ) (old new part : List End) (costs : List (List ℕ)) → new ≡ (old ++ map (placed_end offset) part) ++ map (ending 0) costs
    → ((k : List ℕ) → EndsAt part 0 k ↔ Any (λ e. e ≡ k) costs)
    → (s : ℕ) (k : List ℕ) → EndsAt new s k ↔ (EndsAt old s k ⊎ ((u : ℕ) × StandsFor offset s u × EndsAt part u k))
branch-ends offset old new part costs is exact s k =
    let placed = placed-ends offset part s k in
    let left = leaving-ends 0 costs s k in
    let one = ends-append (old ++ map (placed_end offset) part) (map (ending 0) costs) s k in
    let two = ends-append old (map (placed_end offset) part) s k in (
      λ a. elim (one.0 (subst (λ x. EndsAt x s k) is a)) [
        | inl b ↦ elim (two.0 b) [ inl d ↦ inl d | inr d ↦ let h = placed.0 d in inr (h.0, inl h.1, h.2) ]
        | inr b ↦ let h = left.0 b in inr (0, inr (h.0, refl), (exact k).1 h.1)
      ],
      λ a. subst (λ x. EndsAt x s k) (sym is) (elim a [
        | inl b ↦ one.1 (inl (two.1 (inl b)))
        | inr b ↦ elim b.1 [
          | inl d ↦ one.1 (inl (two.1 (inr (placed.1 (b.0, d, b.2)))))
          | inr d ↦ one.1 (inr (left.1 (d.0, (exact k).0 (subst (λ u. EndsAt part u k) d.1 b.2))))
        ]
      ]),
    )

wrong-step : (s c : ℕ) (k : List ℕ) (t : ℕ) → StepsBy [] s c k t → ⊥
wrong-step s c k t a = Any-none (λ (e : Edge). (e.from ≡ s) × Moves c k t (move_of e)) a

wrong-end : (s : ℕ) (k : List ℕ) → EndsAt [] s k → ⊥
wrong-end s k a = Any-none (λ (e : End). (e.at ≡ s) × (e.cost ≡ k)) a

module _ (w0 w1 w2 a b : Graph) (none_e : w0.edges ≡ []) (none_f : w0.ends ≡ []) (first : IsBranch w0 w1 a 1) (second : IsBranch w1 w2 b (1 + a.states)) where
  -- a step of the whole is one of a branch
  abbrev pub StepOf : Graph → ℕ → ℕ → ℕ → List ℕ → ℕ → Type 0
  StepOf g offset s c k t = (u v : ℕ) × StandsFor offset s u × (t ≡ offset + v) × StepsBy g.edges u c k v

  abbrev pub EndOf : Graph → ℕ → ℕ → List ℕ → Type 0
  EndOf g offset s k = (u : ℕ) × StandsFor offset s u × EndsAt g.ends u k

  pub union-steps : (s c : ℕ) (k : List ℕ) (t : ℕ) → StepsBy w2.edges s c k t ↔ (StepOf a 1 s c k t ⊎ StepOf b (1 + a.states) s c k t)
  union-steps s c k t = (
    λ h. elim ((second.steps s c k t).0 h) [
      | inl x ↦ elim ((first.steps s c k t).0 x) [
        | inl y ↦ absurd (wrong-step s c k t (subst (λ l. StepsBy l s c k t) none_e y))
        | inr y ↦ inl y
      ]
      | inr x ↦ inr x
    ],
    λ h. elim h [
      | inl x ↦ (second.steps s c k t).1 (inl ((first.steps s c k t).1 (inr x)))
      | inr x ↦ (second.steps s c k t).1 (inr x)
    ],
  )

  pub union-ends : (s : ℕ) (k : List ℕ) → EndsAt w2.ends s k ↔ (EndOf a 1 s k ⊎ EndOf b (1 + a.states) s k)
  union-ends s k = (
    λ h. elim ((second.ends s k).0 h) [
      | inl x ↦ elim ((first.ends s k).0 x) [
        | inl y ↦ absurd (wrong-end s k (subst (λ l. EndsAt l s k) none_f y))
        | inr y ↦ inl y
      ]
      | inr x ↦ inr x
    ],
    λ h. elim h [
      | inl x ↦ (second.ends s k).1 (inl ((first.ends s k).1 (inr x)))
      | inr x ↦ (second.ends s k).1 (inr x)
    ],
  )

  first-placed : IsPlaced (EndsAt w2.ends) (StepsBy w2.edges) (EndsAt a.ends) (StepsBy a.edges) a.states 1
  first-placed = record {
    ends = λ u lt k. (
      λ h. elim ((union-ends (1 + u) k).0 h) [
        | inl x ↦ elim x.1 [
          | inl e ↦ let same : x.0 ≡ u = omega (arith, e) in subst (λ n. EndsAt a.ends n k) same x.2
          | inr e ↦ let wrong = e.0 in absurd (omega arith)
        ]
        | inr x ↦ elim x.1 [ inl e ↦ absurd (omega (arith, e, lt)) | inr e ↦ let wrong = e.0 in absurd (omega arith) ]
      ],
      λ h. (union-ends (1 + u) k).1 (inl (u, inl refl, h)),
    );
    steps = λ u lt c k t. (
      λ h. elim ((union-steps (1 + u) c k t).0 h) [
        | inl x ↦ elim x.2 [
          | inl e ↦ let same : x.0 ≡ u = omega (arith, e) in (x.1, x.3, subst (λ n. StepsBy a.edges n c k x.1) same x.4)
          | inr e ↦ let wrong = e.0 in absurd (omega arith)
        ]
        | inr x ↦ elim x.2 [ inl e ↦ absurd (omega (arith, e, lt)) | inr e ↦ let wrong = e.0 in absurd (omega arith) ]
      ],
      λ h. (union-steps (1 + u) c k t).1 (inl (u, h.0, inl refl, h.1, h.2)),
    );
    within = λ u c v k m. step_target a.states a.registers a.edges a.ends a.formed u v c k m;
  }

  second-placed : IsPlaced (EndsAt w2.ends) (StepsBy w2.edges) (EndsAt b.ends) (StepsBy b.edges) b.states (1 + a.states)
  second-placed = record {
    ends = λ u lt k. (
      λ h. elim ((union-ends (1 + a.states + u) k).0 h) [
        | inl x ↦ let below = end-source a.states a.registers a.edges a.ends a.formed x.0 k x.2 in
            elim x.1 [ inl e ↦ absurd (omega (arith, e, below)) | inr e ↦ let wrong = e.0 in absurd (omega arith) ]
        | inr x ↦ elim x.1 [
          | inl e ↦ let same : x.0 ≡ u = omega (arith, e) in subst (λ n. EndsAt b.ends n k) same x.2
          | inr e ↦ let wrong = e.0 in absurd (omega arith)
        ]
      ],
      λ h. (union-ends (1 + a.states + u) k).1 (inr (u, inl refl, h)),
    );
    steps = λ u lt c k t. (
      λ h. elim ((union-steps (1 + a.states + u) c k t).0 h) [
        | inl x ↦ let below = step-source a.states a.registers a.edges a.ends a.formed x.0 c x.1 k x.4 in
            elim x.2 [ inl e ↦ absurd (omega (arith, e, below)) | inr e ↦ let wrong = e.0 in absurd (omega arith) ]
        | inr x ↦ elim x.2 [
          | inl e ↦ let same : x.0 ≡ u = omega (arith, e) in (x.1, x.3, subst (λ n. StepsBy b.edges n c k x.1) same x.4)
          | inr e ↦ let wrong = e.0 in absurd (omega arith)
        ]
      ],
      λ h. (union-steps (1 + a.states + u) c k t).1 (inr (u, h.0, inl refl, h.1, h.2)),
    );
    within = λ u c v k m. step_target b.states b.registers b.edges b.ends b.formed u v c k m;
  }

  starts-end : (k : List ℕ) → EndsAt w2.ends 0 k ↔ (EndsAt a.ends 0 k ⊎ EndsAt b.ends 0 k)
  starts-end k = (
    λ h. elim ((union-ends 0 k).0 h) [
      | inl x ↦ elim x.1 [ inl e ↦ absurd (omega (arith, e)) | inr e ↦ inl (subst (λ n. EndsAt a.ends n k) e.1 x.2) ]
      | inr x ↦ elim x.1 [ inl e ↦ absurd (omega (arith, e)) | inr e ↦ inr (subst (λ n. EndsAt b.ends n k) e.1 x.2) ]
    ],
    λ h. elim h [
      | inl x ↦ (union-ends 0 k).1 (inl (0, inr (refl, refl), x))
      | inr x ↦ (union-ends 0 k).1 (inr (0, inr (refl, refl), x))
    ],
  )

  starts-step : (c : ℕ) (k : List ℕ) (t : ℕ) → StepsBy w2.edges 0 c k t
      ↔ (((v : ℕ) × (t ≡ 1 + v) × StepsBy a.edges 0 c k v) ⊎ ((v : ℕ) × (t ≡ (1 + a.states) + v) × StepsBy b.edges 0 c k v))
  starts-step c k t = (
    λ h. elim ((union-steps 0 c k t).0 h) [
      | inl x ↦ elim x.2 [ inl e ↦ absurd (omega (arith, e)) | inr e ↦ inl (x.1, x.3, subst (λ n. StepsBy a.edges n c k x.1) e.1 x.4) ]
      | inr x ↦ elim x.2 [ inl e ↦ absurd (omega (arith, e)) | inr e ↦ inr (x.1, x.3, subst (λ n. StepsBy b.edges n c k x.1) e.1 x.4) ]
    ],
    λ h. elim h [
      | inl x ↦ (union-steps 0 c k t).1 (inl (0, x.0, inr (refl, refl), x.1, x.2))
      | inr x ↦ (union-steps 0 c k t).1 (inr (0, x.0, inr (refl, refl), x.1, x.2))
    ],
  )

  pub union-language : (word cost : List ℕ) → Accepts w2 word cost ↔ (Accepts a word cost ⊎ Accepts b word cost)
  union-language word cost = union-runs (EndsAt w2.ends) (StepsBy w2.edges) (EndsAt a.ends) (EndsAt b.ends) (StepsBy a.edges) (StepsBy b.edges)
      a.states b.states 1 (1 + a.states) first-placed second-placed starts-end starts-step word cost

  cost-most : (g : Graph) (bound : ℕ) → graph_top g ≤ bound → g.registers ≡ w2.registers → (u c : ℕ) (k : List ℕ) (v : ℕ) → StepsBy g.edges u c k v → IsCost w2.registers bound k
  cost-most g bound le same u c k v m =
      let h = step_cost g.states g.registers g.edges g.ends g.formed u v c k m in
      record { entries = h.entries ∙ same; below = λ r. let b = h.below r in omega arith }

  end-most : (g : Graph) (bound : ℕ) → graph_top g ≤ bound → g.registers ≡ w2.registers → (u : ℕ) (k : List ℕ) → EndsAt g.ends u k → IsCost w2.registers bound k
  end-most g bound le same u k m =
      let h = end_cost g.states g.registers g.edges g.ends g.formed u k m in
      record { entries = h.entries ∙ same; below = λ r. let b = h.below r in omega arith }

  pub union-top : a.registers ≡ w2.registers → b.registers ≡ w2.registers → graph_top w2 ≤ max (graph_top a) (graph_top b)
  union-top p q =
      let bound = max (graph_top a) (graph_top b) in
      let la : graph_top a ≤ bound = omega arith in
      let lb : graph_top b ≤ bound = omega arith in
      top-within w2.states w2.registers bound w2.edges w2.ends w2.formed
      (λ s c k t h. elim ((union-steps s c k t).0 h) [ inl x ↦ cost-most a bound la p x.0 c k x.1 x.4 | inr x ↦ cost-most b bound lb q x.0 c k x.1 x.4 ])
      (λ s k h. elim ((union-ends s k).0 h) [ inl x ↦ end-most a bound la p x.0 k x.2 | inr x ↦ end-most b bound lb q x.0 k x.2 ])
