-- The steps and ends of two machines one after the other.
use Rattle.std.proofs.Common.{◌≡◌, ℕ, ◌+◌, ◌<◌, ◌≤◌, ◌↔◌, ◌⊎◌, inl, inr, List, [], ◌∷◌, ◌++◌, length, map, take, get_or, Any, All, Contains, refl, ap, sym, ◌∙◌, subst, arith, add-one}
use Rattle.sv_word.specs.Ranges.{IsInhabited, least_of}
use Rattle.machine_core.specs.declared.edge.Edge.{Edge}
use Rattle.machine_core.specs.declared.end.End.{End}
use Rattle.machine_core.specs.declared.graph.Graph.{Graph}
use Rattle.machine_core.specs.declared.machine.Move.{Move}
use Rattle.machine_core.specs.Costs.{add_costs, IsCost}
use Rattle.machine_core.specs.CostLaws.{IsCost-add, IsCost-weaker}
use Rattle.sv_list.specs.Lists.{Any-none, Any-cases, Any-map, Any-from_map}
use Rattle.machine_core.specs.Moves.{Moves}
use Rattle.machine_core.specs.Edges.{move_of, EndsAt, StepsBy}
use Rattle.machine_core.specs.EdgeLaws.{step_target, step_cost, end_cost}
use Rattle.machine_core.specs.Graphs.{Accepts, graph_top}
use Rattle.machine_meet.specs.Builds.{placed_edge, placed_end, after_edge, after_end, AfterSteps, AfterEnds, AddsPart, InTurn}
use Rattle.machine_meet.proofs.JoinLemmas.{take-push}
use Rattle.machine_meet.proofs.BuildEdges.{placed-steps, placed-ends, steps-append, ends-append, step-source, end-source, top-within}
use Rattle.machine_meet.proofs.BuildRuns.{IsPlaced, concat-runs}

single-end : (e : End) (s : ℕ) (x : List ℕ) → EndsAt (e ∷ []) s x → (e.at ≡ s) × (e.cost ≡ x)
single-end e s x a = let P : End → Type 0 = λ e. (e.at ≡ s) × (e.cost ≡ x) in
    elim (Any-cases P e [] a) [ inl h ↦ h | inr h ↦ absurd (Any-none P h) ]

pub after-steps : (e : End) (offset : ℕ) (moves : List (Move ℕ)) (edges : List Edge)
    → ((c : ℕ) (k : List ℕ) (t : ℕ) → StepsBy edges 0 c k t ↔ Any (Moves c k t) moves)
    → (s c : ℕ) (k : List ℕ) (t : ℕ) → StepsBy (map (after_edge e offset) moves) s c k t ↔ AfterSteps (e ∷ []) edges offset s c k t
after-steps e offset moves edges exact s c k t = let P : Edge → Type 0 = λ e. (e.from ≡ s) × Moves c k t (move_of e) in (
  λ a. let b = Any-from_map (after_edge e offset) P moves a in
      (e.cost, b.1.cost, b.1.to, (0, e, omega arith, refl, (b.4.0, refl)), (exact c b.1.cost b.1.to).1 (b.0, b.1, b.2, b.3, (b.4.1.0, refl, refl)), sym b.4.1.1, sym b.4.1.2),
  λ h. let b = (exact c h.1 h.2).0 h.4 in
      let one = single-end e s h.0 h.3 in
      let cost : add_costs e.cost b.1.cost ≡ k = ap (λ l. add_costs l b.1.cost) one.1 ∙ ap (add_costs h.0) b.4.1 ∙ sym h.5 in
      Any-map (after_edge e offset) P moves (b.0, b.1, b.2, b.3, (one.0, (b.4.0, cost, ap (λ n. offset + n) b.4.2 ∙ sym h.6))),
)

pub after-ends : (e : End) (costs : List (List ℕ)) (ends : List End) → ((k : List ℕ) → EndsAt ends 0 k ↔ Any (λ x. x ≡ k) costs)
    → (s : ℕ) (k : List ℕ) → EndsAt (map (after_end e) costs) s k ↔ AfterEnds (e ∷ []) ends s k
after-ends e costs ends exact s k = let P : End → Type 0 = λ e. (e.at ≡ s) × (e.cost ≡ k) in (
  λ a. let b = Any-from_map (after_end e) P costs a in
      (e.cost, b.1, (0, e, omega arith, refl, (b.4.0, refl)), (exact b.1).1 (b.0, b.1, b.2, b.3, refl), sym b.4.1),
  λ h. let b = (exact h.1).0 h.3 in
      let one = single-end e s h.0 h.2 in
      let cost : add_costs e.cost b.1 ≡ k = ap (λ l. add_costs l b.1) one.1 ∙ ap (add_costs h.0) b.4 ∙ sym h.4 in
      Any-map (after_end e) P costs (b.0, b.1, b.2, b.3, (one.0, cost)),
)

module _ (part : Graph) (offset : ℕ) where
  pub goes-on-one : (old new : Graph) (e : End) (moves : List (Move ℕ)) (costs : List (List ℕ)) → new.states ≡ old.states → new.registers ≡ old.registers
      → new.edges ≡ old.edges ++ map (after_edge e offset) moves → new.ends ≡ old.ends ++ map (after_end e) costs
      → ((c : ℕ) (k : List ℕ) (t : ℕ) → StepsBy part.edges 0 c k t ↔ Any (Moves c k t) moves) → ((k : List ℕ) → EndsAt part.ends 0 k ↔ Any (λ x. x ≡ k) costs)
      → AddsPart old new part (e ∷ []) offset
  goes-on-one old new e moves costs p q edges ends exact last = record {
    states = p;
    registers = q;
    steps = λ s c k t.
        let app = steps-append old.edges (map (after_edge e offset) moves) s c k t in
        let aft = after-steps e offset moves part.edges exact s c k t in (
          λ a. elim (app.0 (subst (λ l. StepsBy l s c k t) edges a)) [ inl h ↦ inl h | inr h ↦ inr (aft.0 h) ],
          λ a. subst (λ l. StepsBy l s c k t) (sym edges) (elim a [ inl h ↦ app.1 (inl h) | inr h ↦ app.1 (inr (aft.1 h)) ]),
        );
    ends_are = λ s k.
        let app = ends-append old.ends (map (after_end e) costs) s k in
        let aft = after-ends e costs part.ends last s k in (
          λ a. elim (app.0 (subst (λ l. EndsAt l s k) ends a)) [ inl h ↦ inl h | inr h ↦ inr (aft.0 h) ],
          λ a. subst (λ l. EndsAt l s k) (sym ends) (elim a [ inl h ↦ app.1 (inl h) | inr h ↦ app.1 (inr (aft.1 h)) ]),
        );
  }

  pub goes-on-start : (w : Graph) → AddsPart w w part [] offset
  goes-on-start w = record {
    states = refl;
    registers = refl;
    steps = λ s c k t. (λ a. inl a, λ a. elim a [ inl h ↦ h | inr h ↦ absurd (Any-none (λ (e : End). (e.at ≡ s) × (e.cost ≡ h.0)) h.3) ]);
    ends_are = λ s k. (λ a. inl a, λ a. elim a [ inl h ↦ h | inr h ↦ absurd (Any-none (λ (e : End). (e.at ≡ s) × (e.cost ≡ h.0)) h.2) ]);
  }

  pub goes-on-next : (w0 w1 w2 : Graph) (ends : List End) (i : ℕ) (e : End) → i < length ends → e ≡ get_or ends i e
      → AddsPart w0 w1 part (take i ends) offset → AddsPart w1 w2 part (e ∷ []) offset → AddsPart w0 w2 part (take (i + 1) ends) offset
  goes-on-next w0 w1 w2 ends i e lt is g h =
      let grown : take (i + 1) ends ≡ take i ends ++ e ∷ [] = rw add-one (take-push ends i e lt ∙ ap (λ x. take i ends ++ x ∷ []) (sym is)) in
      subst (λ l. AddsPart w0 w2 part l offset) (sym grown) (record {
        states = h.states ∙ g.states;
        registers = h.registers ∙ g.registers;
        steps = λ s c k t. (
          λ a. elim ((h.steps s c k t).0 a) [
            | inl x ↦ elim ((g.steps s c k t).0 x) [
              | inl y ↦ inl y
              | inr y ↦ inr (y.0, y.1, y.2, (ends-append (take i ends) (e ∷ []) s y.0).1 (inl y.3), y.4, y.5, y.6)
            ]
            | inr x ↦ inr (x.0, x.1, x.2, (ends-append (take i ends) (e ∷ []) s x.0).1 (inr x.3), x.4, x.5, x.6)
          ],
          λ a. elim a [
            | inl x ↦ (h.steps s c k t).1 (inl ((g.steps s c k t).1 (inl x)))
            | inr x ↦ elim ((ends-append (take i ends) (e ∷ []) s x.0).0 x.3) [
              | inl y ↦ (h.steps s c k t).1 (inl ((g.steps s c k t).1 (inr (x.0, x.1, x.2, y, x.4, x.5, x.6))))
              | inr y ↦ (h.steps s c k t).1 (inr (x.0, x.1, x.2, y, x.4, x.5, x.6))
            ]
          ],
        );
        ends_are = λ s k. (
          λ a. elim ((h.ends_are s k).0 a) [
            | inl x ↦ elim ((g.ends_are s k).0 x) [
              | inl y ↦ inl y
              | inr y ↦ inr (y.0, y.1, (ends-append (take i ends) (e ∷ []) s y.0).1 (inl y.2), y.3, y.4)
            ]
            | inr x ↦ inr (x.0, x.1, (ends-append (take i ends) (e ∷ []) s x.0).1 (inr x.2), x.3, x.4)
          ],
          λ a. elim a [
            | inl x ↦ (h.ends_are s k).1 (inl ((g.ends_are s k).1 (inl x)))
            | inr x ↦ elim ((ends-append (take i ends) (e ∷ []) s x.0).0 x.2) [
              | inl y ↦ (h.ends_are s k).1 (inl ((g.ends_are s k).1 (inr (x.0, x.1, y, x.3, x.4))))
              | inr y ↦ (h.ends_are s k).1 (inr (x.0, x.1, y, x.3, x.4))
            ]
          ],
        );
      })

module _ (w3 w4 a b : Graph) (edges : w3.edges ≡ map (placed_edge 0) a.edges ++ map (placed_edge a.states) b.edges) (ends : w3.ends ≡ map (placed_end a.states) b.ends)
    (on : AddsPart w3 w4 b a.ends a.states) where
  below-a : (s c t : ℕ) (k : List ℕ) → StepsBy a.edges s c k t → s < a.states
  below-a s c t k m = step-source a.states a.registers a.edges a.ends a.formed s c t k m

  end-below-a : (s : ℕ) (k : List ℕ) → EndsAt a.ends s k → s < a.states
  end-below-a s k m = end-source a.states a.registers a.edges a.ends a.formed s k m

  -- each step is one of the first, one of the second, or leads from the first to the second
  pub concat-steps : (s c : ℕ) (k : List ℕ) (t : ℕ) → StepsBy w4.edges s c k t ↔ (StepsBy a.edges s c k t
      ⊎ (((u v : ℕ) × (s ≡ a.states + u) × (t ≡ a.states + v) × StepsBy b.edges u c k v) ⊎ AfterSteps a.ends b.edges a.states s c k t))
  concat-steps s c k t =
      let app = steps-append (map (placed_edge 0) a.edges) (map (placed_edge a.states) b.edges) s c k t in
      let zero_a = placed-steps 0 a.edges s c k t in
      let on_b = placed-steps a.states b.edges s c k t in (
        λ h. elim ((on.steps s c k t).0 h) [
          | inl x ↦ elim (app.0 (subst (λ l. StepsBy l s c k t) edges x)) [
            | inl y ↦
                let z = zero_a.0 y in
                let from : z.0 ≡ s = omega (arith, z.2) in
                let to : z.1 ≡ t = omega (arith, z.3) in
                inl (subst (λ n. StepsBy a.edges n c k t) from (subst (λ n. StepsBy a.edges z.0 c k n) to z.4))
            | inr y ↦ inr (inl (on_b.0 y))
          ]
          | inr x ↦ inr (inr x)
        ],
        λ h. elim h [
          | inl x ↦ (on.steps s c k t).1 (inl (subst (λ l. StepsBy l s c k t) (sym edges) (app.1 (inl (zero_a.1 (s, t, omega arith, omega arith, x))))))
          | inr x ↦ elim x [
            | inl y ↦ (on.steps s c k t).1 (inl (subst (λ l. StepsBy l s c k t) (sym edges) (app.1 (inr (on_b.1 y)))))
            | inr y ↦ (on.steps s c k t).1 (inr y)
          ]
        ],
      )

  pub concat-ends : (s : ℕ) (k : List ℕ) → EndsAt w4.ends s k ↔ (((u : ℕ) × (s ≡ a.states + u) × EndsAt b.ends u k) ⊎ AfterEnds a.ends b.ends s k)
  concat-ends s k = (
    λ h. elim ((on.ends_are s k).0 h) [ inl x ↦ inl ((placed-ends a.states b.ends s k).0 (subst (λ l. EndsAt l s k) ends x)) | inr x ↦ inr x ],
    λ h. elim h [
      | inl x ↦ (on.ends_are s k).1 (inl (subst (λ l. EndsAt l s k) (sym ends) ((placed-ends a.states b.ends s k).1 x)))
      | inr x ↦ (on.ends_are s k).1 (inr x)
    ],
  )

  second-placed : IsPlaced (EndsAt w4.ends) (StepsBy w4.edges) (EndsAt b.ends) (StepsBy b.edges) b.states a.states
  second-placed = record {
    ends = λ u lt k. (
      λ h. elim ((concat-ends (a.states + u) k).0 h) [
        | inl x ↦ let same : x.0 ≡ u = omega (arith, x.1) in subst (λ n. EndsAt b.ends n k) same x.2
        | inr x ↦ let below = end-below-a (a.states + u) x.0 x.2 in absurd (omega (arith, below))
      ],
      λ h. (concat-ends (a.states + u) k).1 (inl (u, refl, h)),
    );
    steps = λ u lt c k t. (
      λ h. elim ((concat-steps (a.states + u) c k t).0 h) [
        | inl x ↦ let below = below-a (a.states + u) c t k x in absurd (omega (arith, below))
        | inr x ↦ elim x [
          | inl y ↦ let same : y.0 ≡ u = omega (arith, y.2) in (y.1, y.3, subst (λ n. StepsBy b.edges n c k y.1) same y.4)
          | inr y ↦ let below = end-below-a (a.states + u) y.0 y.3 in absurd (omega (arith, below))
        ]
      ],
      λ h. (concat-steps (a.states + u) c k t).1 (inr (inl (u, h.0, refl, h.1, h.2))),
    );
    within = λ u c v k m. step_target b.states b.registers b.edges b.ends b.formed u v c k m;
  }

  first-ends : (u : ℕ) (k : List ℕ) → u < a.states → EndsAt w4.ends u k ↔ ((x y : List ℕ) × EndsAt a.ends u x × EndsAt b.ends 0 y × (k ≡ add_costs x y))
  first-ends u k lt = (
    λ h. elim ((concat-ends u k).0 h) [ inl x ↦ absurd (omega (arith, x.1, lt)) | inr x ↦ x ],
    λ h. (concat-ends u k).1 (inr h),
  )

  first-steps : (u c : ℕ) (k : List ℕ) (t : ℕ) → u < a.states → StepsBy w4.edges u c k t ↔ (StepsBy a.edges u c k t
      ⊎ ((x y : List ℕ) × (v : ℕ) × EndsAt a.ends u x × StepsBy b.edges 0 c y v × (k ≡ add_costs x y) × (t ≡ a.states + v)))
  first-steps u c k t lt = (
    λ h. elim ((concat-steps u c k t).0 h) [
      | inl x ↦ inl x
      | inr x ↦ elim x [ inl y ↦ absurd (omega (arith, y.2, lt)) | inr y ↦ inr y ]
    ],
    λ h. elim h [ inl x ↦ (concat-steps u c k t).1 (inl x) | inr x ↦ (concat-steps u c k t).1 (inr (inr x)) ],
  )

  pub concat-language : (word cost : List ℕ) → Accepts w4 word cost ↔ InTurn (Accepts a) (Accepts b) word cost
  concat-language word cost = concat-runs (EndsAt w4.ends) (StepsBy w4.edges) (EndsAt a.ends) (EndsAt b.ends) (StepsBy a.edges) (StepsBy b.edges) a.states b.states
      second-placed (λ u c v k m. step_target a.states a.registers a.edges a.ends a.formed u v c k m) first-ends first-steps a.started word cost

  pub concat-top : a.registers ≡ w4.registers → b.registers ≡ w4.registers → graph_top w4 ≤ graph_top a + graph_top b
  concat-top p q = top-within w4.states w4.registers (graph_top a + graph_top b) w4.edges w4.ends w4.formed
      (λ s c k t h. elim ((concat-steps s c k t).0 h) [
        | inl x ↦ IsCost-weaker w4.registers (graph_top a) (graph_top a + graph_top b) k (omega arith) (subst (λ n. IsCost n (graph_top a) k) p (step_cost a.states a.registers a.edges a.ends a.formed s t c k x))
        | inr x ↦ elim x [
          | inl y ↦ IsCost-weaker w4.registers (graph_top b) (graph_top a + graph_top b) k (omega arith) (subst (λ n. IsCost n (graph_top b) k) q (step_cost b.states b.registers b.edges b.ends b.formed y.0 y.1 c k y.4))
          | inr y ↦ subst (IsCost w4.registers (graph_top a + graph_top b)) (sym y.5) (IsCost-add w4.registers (graph_top a) (graph_top b) y.0 y.1
              (subst (λ n. IsCost n (graph_top a) y.0) p (end_cost a.states a.registers a.edges a.ends a.formed s y.0 y.3))
              (subst (λ n. IsCost n (graph_top b) y.1) q (step_cost b.states b.registers b.edges b.ends b.formed 0 y.2 c y.1 y.4)))
        ]
      ])
      (λ s k h. elim ((concat-ends s k).0 h) [
        | inl x ↦ IsCost-weaker w4.registers (graph_top b) (graph_top a + graph_top b) k (omega arith) (subst (λ n. IsCost n (graph_top b) k) q (end_cost b.states b.registers b.edges b.ends b.formed x.0 k x.2))
        | inr x ↦ subst (IsCost w4.registers (graph_top a + graph_top b)) (sym x.4) (IsCost-add w4.registers (graph_top a) (graph_top b) x.0 x.1
            (subst (λ n. IsCost n (graph_top a) x.0) p (end_cost a.states a.registers a.edges a.ends a.formed s x.0 x.2))
            (subst (λ n. IsCost n (graph_top b) x.1) q (end_cost b.states b.registers b.edges b.ends b.formed 0 x.1 x.3)))
      ])

-- what the moves that leave a state cost is no more than the greatest cost
pub moves-below : (g : Graph) (s : ℕ) (moves : List (Move ℕ)) → ((c : ℕ) (k : List ℕ) (t : ℕ) → StepsBy g.edges s c k t ↔ Any (Moves c k t) moves) → All (λ m. IsInhabited m.on) moves
    → (m : Move ℕ) → Contains moves m → IsCost g.registers (graph_top g) m.cost
moves-below g s moves exact inhabited m i =
    let on = subst (λ (x : Move ℕ). IsInhabited x.on) i.2 (inhabited i.0 m i.1) in
    step_cost g.states g.registers g.edges g.ends g.formed s m.to (least_of m.on) m.cost ((exact (least_of m.on) m.cost m.to).1 (i.0, m, i.1, i.2, (on, refl, refl)))

pub ends-below : (g : Graph) (s : ℕ) (costs : List (List ℕ)) → ((k : List ℕ) → EndsAt g.ends s k ↔ Any (λ x. x ≡ k) costs)
    → (k : List ℕ) → Contains costs k → IsCost g.registers (graph_top g) k
ends-below g s costs exact k i = end_cost g.states g.registers g.edges g.ends g.formed s k ((exact k).1 (i.0, k, i.1, i.2, refl))
