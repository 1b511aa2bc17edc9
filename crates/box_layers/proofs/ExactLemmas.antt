-- What leaves a layer is just each step to another layer.
use Rattle.std.proofs.Common.{◌≡◌, ℕ, suc, ◌≤◌, ◌↔◌, inl, inr, Bool, true, false, cond, nat_lt, nat_le, ◌&&◌, IsTrue, List, [], ◌∷◌, ◌++◌, length, slice_get, All, Any, Contains, Some, refl, ap, sym, ◌∙◌, subst, arith}
use Rattle.std.proofs.lemmas.Bool.Decides.{nat_tests}
use Rattle.std.proofs.lemmas.List.Elements.{All-nil, All-cons, All-head, All-tail, All-append, All-contains}
use Rattle.sv_word.specs.Ranges.{in_ranges, least_of, IsInhabited}
use Rattle.machine_core.specs.declared.graph.Graph.{Graph}
use Rattle.machine_core.specs.declared.machine.Move.{Move}
use Rattle.machine_core.specs.Costs.{add_costs}
use Rattle.machine_core.specs.Edges.{EndsAt, StepsBy}
use Rattle.machine_core.specs.EdgeLaws.{step_cost, end_cost}
use Rattle.sv_list.specs.Lists.{Any-none, Any-here, Any-there, Any-cases, Any-contains, Any-append_left, Any-append_right, Any-append_cases}
use Rattle.machine_core.specs.Moves.{Moves}
use Rattle.box_layers.specs.declared.layer.Layer.{Layer}
use Rattle.box_layers.specs.Layers.{layer, AreWithinGreatest, LayerStep, Turns}
use Rattle.box_layers.specs.LayerLaws.{same-graph}
use Rattle.box_layers.specs.Moving.{is_below, step_move, end_move, step_moves, end_moves, AreLayerSteps, AreLayerEnds}
use Rattle.box_layers.proofs.MoveLemmas.{below-true}

below-back : (vs us : List ℕ) → is_below vs us ≡ true → AreWithinGreatest vs us
below-back [] [] h = tt
below-back [] (u ∷ us) h = cc
below-back (v ∷ vs) [] h = cc
below-back (v ∷ vs) (u ∷ us) h = by_test (nat_lt u v) refl h (below-back vs us)
  where
    by_test : (b : Bool) → nat_lt u v ≡ b → cond b false (is_below vs us) ≡ true → (is_below vs us ≡ true → AreWithinGreatest vs us) → (v ≤ u) × AreWithinGreatest vs us
    by_test true e r rest = cc
    by_test false e r rest = (grind (arith, nat_tests), rest r)

layer-same-parts : (a b n m : ℕ) (v w : List ℕ) → a ≡ b → n ≡ m → v ≡ w → layer a n v ≡ layer b m w
layer-same-parts a b n m v w e f g = ap (λ x. layer x n v) e ∙ ap (λ x. layer b x v) f ∙ ap (λ x. layer b m x) g

module _ (us : List ℕ) (at : Layer) (c : ℕ) (k : List ℕ) (q : Layer) where
  -- what all moves from the layer have in common
  abbrev Pays : Type 0
  Pays = (q.spent ≡ add_costs at.spent k) × AreWithinGreatest q.spent us

  pays : (cost : List ℕ) → cost ≡ k → add_costs at.spent cost ≡ q.spent → is_below (add_costs at.spent cost) us ≡ true → Pays
  pays cost e f b = (sym f ∙ ap (add_costs at.spent) e, subst (λ l. AreWithinGreatest l us) f (below-back (add_costs at.spent cost) us b))

  paid : (cost : List ℕ) → cost ≡ k → Pays → (add_costs at.spent cost ≡ q.spent) × (is_below (add_costs at.spent cost) us ≡ true)
  paid cost e p =
      let f : add_costs at.spent cost ≡ q.spent = ap (add_costs at.spent) e ∙ sym p.0 in
      (f, below-true (add_costs at.spent cost) us (subst (λ l. AreWithinGreatest l us) (sym f) p.1))

  steps-from : (ms : List (Move ℕ)) → Any (Moves c k q) (step_moves us at ms) → Any (Moves c k q.state) ms × (q.machine ≡ at.machine) × Pays
  steps-from [] a = absurd (Any-none (Moves c k q) a)
  steps-from (m ∷ ms) a = by_test (is_below (add_costs at.spent m.cost) us) refl a (λ r. let h = steps-from ms r in (Any-there (Moves c k q.state) m ms h.0, h.1, h.2))
    where
      by_test : (b : Bool) → is_below (add_costs at.spent m.cost) us ≡ b → Any (Moves c k q) (cond b (step_move at m ∷ step_moves us at ms) (step_moves us at ms))
          → (Any (Moves c k q) (step_moves us at ms) → Any (Moves c k q.state) (m ∷ ms) × (q.machine ≡ at.machine) × Pays) → Any (Moves c k q.state) (m ∷ ms) × (q.machine ≡ at.machine) × Pays
      by_test false e r later = later r
      by_test true e r later = elim (Any-cases (Moves c k q) (step_move at m) (step_moves us at ms) r) [
        | inl h ↦ (Any-here (Moves c k q.state) m ms (h.0, h.1, ap (λ (l : Layer). l.state) h.2), sym (ap (λ (l : Layer). l.machine) h.2), pays m.cost h.1 (ap (λ (l : Layer). l.spent) h.2) e)
        | inr rest ↦ later rest
      ]

  steps-to : (ms : List (Move ℕ)) → Any (Moves c k q.state) ms → q.machine ≡ at.machine → Pays → Any (Moves c k q) (step_moves us at ms)
  steps-to [] a same p = absurd (Any-none (Moves c k q.state) a)
  steps-to (m ∷ ms) a same p = elim (Any-cases (Moves c k q.state) m ms a) [
    | inl h ↦
        let b = paid m.cost h.1 p in
        here (is_below (add_costs at.spent m.cost) us) b.1 (h.0, h.1, layer-same-parts at.machine q.machine m.to q.state (add_costs at.spent m.cost) q.spent (sym same) h.2 b.0)
    | inr r ↦ there (is_below (add_costs at.spent m.cost) us) (steps-to ms r same p)
  ]
    where
      here : (b : Bool) → b ≡ true → Moves c k q (step_move at m) → Any (Moves c k q) (cond b (step_move at m ∷ step_moves us at ms) (step_moves us at ms))
      here true e h = Any-here (Moves c k q) (step_move at m) (step_moves us at ms) h
      here false e h = cc

      there : (b : Bool) → Any (Moves c k q) (step_moves us at ms) → Any (Moves c k q) (cond b (step_move at m ∷ step_moves us at ms) (step_moves us at ms))
      there true r = Any-there (Moves c k q) (step_move at m) (step_moves us at ms) r
      there false r = r

  module _ (on : List (ℕ × ℕ)) where
    abbrev Begins : Type 0
    Begins = IsTrue (in_ranges on c) × (q.machine ≡ suc at.machine) × (q.state ≡ 0)

    ends-from : (ks : List (List ℕ)) → Any (Moves c k q) (end_moves us on at ks) → Any (λ e. e ≡ k) ks × Begins × Pays
    ends-from [] a = absurd (Any-none (Moves c k q) a)
    ends-from (e ∷ ks) a = by_test (is_below (add_costs at.spent e) us) refl a (λ r. let h = ends-from ks r in (Any-there (λ e. e ≡ k) e ks h.0, h.1, h.2))
      where
        by_test : (b : Bool) → is_below (add_costs at.spent e) us ≡ b → Any (Moves c k q) (cond b (end_move on at e ∷ end_moves us on at ks) (end_moves us on at ks))
            → (Any (Moves c k q) (end_moves us on at ks) → Any (λ e. e ≡ k) (e ∷ ks) × Begins × Pays) → Any (λ e. e ≡ k) (e ∷ ks) × Begins × Pays
        by_test false t r later = later r
        by_test true t r later = elim (Any-cases (Moves c k q) (end_move on at e) (end_moves us on at ks) r) [
          | inl h ↦ (Any-here (λ e. e ≡ k) e ks h.1, (h.0, sym (ap (λ (l : Layer). l.machine) h.2), sym (ap (λ (l : Layer). l.state) h.2)), pays e h.1 (ap (λ (l : Layer). l.spent) h.2) t)
          | inr rest ↦ later rest
        ]

    ends-to : (ks : List (List ℕ)) → Any (λ e. e ≡ k) ks → Begins → Pays → Any (Moves c k q) (end_moves us on at ks)
    ends-to [] a begins p = absurd (Any-none (λ e. e ≡ k) a)
    ends-to (e ∷ ks) a begins p = elim (Any-cases (λ e. e ≡ k) e ks a) [
      | inl h ↦
          let b = paid e h p in
          here (is_below (add_costs at.spent e) us) b.1 (begins.0, h, layer-same-parts (suc at.machine) q.machine 0 q.state (add_costs at.spent e) q.spent (sym begins.1) (sym begins.2) b.0)
      | inr r ↦ there (is_below (add_costs at.spent e) us) (ends-to ks r begins p)
    ]
      where
        here : (b : Bool) → b ≡ true → Moves c k q (end_move on at e) → Any (Moves c k q) (cond b (end_move on at e ∷ end_moves us on at ks) (end_moves us on at ks))
        here true t h = Any-here (Moves c k q) (end_move on at e) (end_moves us on at ks) h
        here false t h = cc

        there : (b : Bool) → Any (Moves c k q) (end_moves us on at ks) → Any (Moves c k q) (cond b (end_move on at e ∷ end_moves us on at ks) (end_moves us on at ks))
        there true r = Any-there (Moves c k q) (end_move on at e) (end_moves us on at ks) r
        there false r = r

-- a set of the character 0 alone
zero-there : (on : List (ℕ × ℕ)) (c : ℕ) → in_ranges on c ≡ (nat_le 0 c && nat_le c 0) → c ≡ 0 → IsTrue (in_ranges on c)
zero-there on c e z = grind (arith, nat_tests)

there-zero : (on : List (ℕ × ℕ)) (c : ℕ) → in_ranges on c ≡ (nat_le 0 c && nat_le c 0) → IsTrue (in_ranges on c) → c ≡ 0
there-zero on c e t = grind (arith, nat_tests)

module _ (machines : List Graph) (us : List ℕ) (good : List ℕ → Type 0) (at : Layer) (m : Graph) (work : slice_get machines at.machine ≡ Some m)
    (inner : List (Move ℕ)) (last : List (List ℕ)) (on : List (ℕ × ℕ))
    (moves : (c : ℕ) (k : List ℕ) (t : ℕ) → StepsBy m.edges at.state c k t ↔ Any (Moves c k t) inner)
    (ends : (k : List ℕ) → EndsAt m.ends at.state k ↔ Any (λ e. e ≡ k) last)
    (single : (c : ℕ) → in_ranges on c ≡ (nat_le 0 c && nat_le c 0)) where
  pub moves-exact : (c : ℕ) (k : List ℕ) (q : Layer) → LayerStep machines us good at c k q ↔ Any (Moves c k q) (step_moves us at inner ++ end_moves us on at last)
  moves-exact c k q = (to, from)
    where
      to : LayerStep machines us good at c k q → Any (Moves c k q) (step_moves us at inner ++ end_moves us on at last)
      to step =
          by_turn (subst (λ (g : Graph). Turns machines us good g at c k q) (same-graph machines at.machine step.graph m step.at_work work) step.turn)
        where
          by_turn : Turns machines us good m at c k q → Any (Moves c k q) (step_moves us at inner ++ end_moves us on at last)
          by_turn (inl inside) = Any-append_left (Moves c k q) (step_moves us at inner) (end_moves us on at last)
              (steps-to us at c k q inner ((moves c k q.state).0 inside.1) inside.0 (step.paid, step.below))
          by_turn (inr next) = Any-append_right (Moves c k q) (step_moves us at inner) (end_moves us on at last)
              (ends-to us at c k q on last ((ends k).0 next.3) (zero-there on c (single c) next.2, next.0, next.1) (step.paid, step.below))

      from : Any (Moves c k q) (step_moves us at inner ++ end_moves us on at last) → LayerStep machines us good at c k q
      from a = elim (Any-append_cases (Moves c k q) (step_moves us at inner) (end_moves us on at last) a) [
        | inl h ↦
            let r = steps-from us at c k q inner h in
            record { graph = m; at_work = work; paid = r.2.0; below = r.2.1; turn = inl (r.1, (moves c k q.state).1 r.0) }
        | inr h ↦
            let r = ends-from us at c k q on last h in
            record { graph = m; at_work = work; paid = r.2.0; below = r.2.1; turn = inr (r.1.1, r.1.2, there-zero on c (single c) r.1.0, (ends k).1 r.0) }
      ]

-- the costs of the machine at work
pub move-width : (m : Graph) (s : ℕ) (inner : List (Move ℕ)) → ((c : ℕ) (k : List ℕ) (t : ℕ) → StepsBy m.edges s c k t ↔ Any (Moves c k t) inner) → All (λ (e : Move ℕ). IsInhabited e.on) inner
    → (e : Move ℕ) → Contains inner e → length e.cost ≡ m.registers
move-width m s inner moves some e k =
    let step = (moves (least_of e.on) e.cost e.to).1 (Any-contains (Moves (least_of e.on) e.cost e.to) inner e k (All-contains (λ (e : Move ℕ). IsInhabited e.on) inner e some k, refl, refl)) in
    (step_cost m.states m.registers m.edges m.ends m.formed s e.to (least_of e.on) e.cost step).entries

pub end-width : (m : Graph) (s : ℕ) (last : List (List ℕ)) → ((k : List ℕ) → EndsAt m.ends s k ↔ Any (λ e. e ≡ k) last) → (k : List ℕ) → Contains last k → length k ≡ m.registers
end-width m s last ends k c = (end_cost m.states m.registers m.edges m.ends m.formed s k ((ends k).1 (Any-contains (λ e. e ≡ k) last k c refl))).entries

-- no move has an empty set of characters
steps-some : (us : List ℕ) (at : Layer) (ms : List (Move ℕ)) → All (λ (e : Move ℕ). IsInhabited e.on) ms → All (λ (e : Move Layer). IsInhabited e.on) (step_moves us at ms)
steps-some us at [] h = All-nil (λ (e : Move Layer). IsInhabited e.on)
steps-some us at (m ∷ ms) h = by_test (is_below (add_costs at.spent m.cost) us) (steps-some us at ms (All-tail (λ (e : Move ℕ). IsInhabited e.on) m ms h))
  where
    by_test : (b : Bool) → All (λ (e : Move Layer). IsInhabited e.on) (step_moves us at ms) → All (λ (e : Move Layer). IsInhabited e.on) (cond b (step_move at m ∷ step_moves us at ms) (step_moves us at ms))
    by_test true r = All-cons (λ (e : Move Layer). IsInhabited e.on) (step_move at m) (step_moves us at ms) (All-head (λ (e : Move ℕ). IsInhabited e.on) m ms h) r
    by_test false r = r

ends-some : (us : List ℕ) (on : List (ℕ × ℕ)) (at : Layer) (ks : List (List ℕ)) → IsInhabited on → All (λ (e : Move Layer). IsInhabited e.on) (end_moves us on at ks)
ends-some us on at [] h = All-nil (λ (e : Move Layer). IsInhabited e.on)
ends-some us on at (k ∷ ks) h = by_test (is_below (add_costs at.spent k) us) (ends-some us on at ks h)
  where
    by_test : (b : Bool) → All (λ (e : Move Layer). IsInhabited e.on) (end_moves us on at ks) → All (λ (e : Move Layer). IsInhabited e.on) (cond b (end_move on at k ∷ end_moves us on at ks) (end_moves us on at ks))
    by_test true r = All-cons (λ (e : Move Layer). IsInhabited e.on) (end_move on at k) (end_moves us on at ks) h r
    by_test false r = r

pub moves-some : (us : List ℕ) (on : List (ℕ × ℕ)) (at : Layer) (inner : List (Move ℕ)) (last : List (List ℕ)) → All (λ (e : Move ℕ). IsInhabited e.on) inner → IsInhabited on
    → All (λ (e : Move Layer). IsInhabited e.on) (step_moves us at inner ++ end_moves us on at last)
moves-some us on at inner last h g =
    All-append (λ (e : Move Layer). IsInhabited e.on) (step_moves us at inner) (end_moves us on at last) (steps-some us at inner h) (ends-some us on at last g)

-- both together
pub moves-made : (m : Graph) (us : List ℕ) (at : Layer) (all next : List (Move Layer)) → (steps : AreLayerSteps m us at all) → (ends : AreLayerEnds m us at next)
    → all ++ next ≡ step_moves us at steps.inner ++ end_moves us ends.on at ends.costs
moves-made m us at all next steps ends = ap (λ l. l ++ next) steps.made ∙ ap (λ l. step_moves us at steps.inner ++ l) ends.made
