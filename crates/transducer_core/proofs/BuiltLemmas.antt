-- Nodes as the states of a machine.
use Rattle.std.proofs.Common.{◌≡◌, refl, sym, ap, ◌∙◌, subst, Bool, true, false, IsTrue, ℕ, zero, suc, ◌+◌, ◌<◌, ◌⊎◌, inl, inr, ⊎_elim, ◌↔◌, List, [], ◌∷◌, ◌++◌, length, get_or, take, Contains, Some, arith}
use Rattle.std.specs.Prelude.{slice_get, nat_le, ◌&&◌}
use Rattle.std.proofs.lemmas.List.{take_more}
use Rattle.std.proofs.lemmas.Option.{get_or_from_slice_get, slice_get-get_or, same_Some}
use Rattle.std.proofs.lemmas.List.Elements.{Contains-append_left, Contains-append_right, Contains-append_cases}
use Rattle.std.proofs.lemmas.List.Quantifiers.{Any-push}
use Rattle.machine_core.specs.Edges.{EndsAt, StepsBy, edge, ending, move_of}
use Rattle.machine_core.specs.Graphs.{Accepts}
use Rattle.machine_core.specs.Language.{RunsFrom}
use Rattle.sv_list.specs.Lists.{Any-append_left, Any-push_cases, slice_get-append, slice_get-end}
use Rattle.machine_core.specs.Moves.{Moves}
use Rattle.machine_core.specs.declared.edge.Edge.{Edge}
use Rattle.machine_core.specs.declared.end.End.{End}
use Rattle.machine_core.specs.declared.graph.Graph.{Graph}
use Rattle.sv_word.specs.Ranges.{in_ranges}
use Rattle.transducer_core.specs.Built.{IsAnyStep, IsBuilt, IsStep}
use Rattle.transducer_core.specs.Nodes.{NodeSpells, Spells}
use Rattle.transducer_core.specs.declared.node.OutputNode.{OutputNode}
use Rattle.transducer_core.proofs.NodeLemmas.{not_both, only_one}

-- one character is in the pair of it alone
between : (c d : ℕ) → (nat_le c d && nat_le d c) ≡ true → c ≡ d
between c d e = grind (arith)

between_self : (c : ℕ) → (nat_le c c && nat_le c c) ≡ true
between_self c = grind (arith)

-- one edge more
pub step_added : (old new : List Edge) (on : List (ℕ × ℕ)) (cost0 : List ℕ) (state c place : ℕ) → ((d : ℕ) → in_ranges on d ≡ (nat_le c d && nat_le d c)) → cost0 ≡ [] → new ≡ old ++ edge state on cost0 (place + 1) ∷ []
    → (s d : ℕ) (cost : List ℕ) (to : ℕ) → StepsBy new s d cost to ↔ (StepsBy old s d cost to ⊎ IsStep state (c, place) s d cost to)
step_added old new on cost0 state c place r z e s d cost to = (
  λ k. ⊎_elim inl (λ h. inr (h.0, between c d (sym (r d) ∙ h.1.0), sym h.1.1 ∙ z, sym h.1.2)) (Any-push_cases (λ (x : Edge). (x.from ≡ s) × Moves d cost to (move_of x)) old (edge state on cost0 (place + 1)) (subst (λ es. StepsBy es s d cost to) e k)),
  λ k. subst (λ es. StepsBy es s d cost to) (sym e) (⊎_elim (Any-append_left (λ (x : Edge). (x.from ≡ s) × Moves d cost to (move_of x)) old (edge state on cost0 (place + 1) ∷ []))
      (λ h. Any-push (λ (x : Edge). (x.from ≡ s) × Moves d cost to (move_of x)) old (edge state on cost0 (place + 1)) (h.0, (r d ∙ subst (λ x. (nat_le c x && nat_le x c) ≡ true) h.1 (between_self c), z ∙ sym h.2, sym h.3))) k),
)

-- the edges of one pair more
pub steps_more : (es fs ls : List Edge) (state : ℕ) (firsts : List (ℕ × ℕ)) (i : ℕ) (x : ℕ × ℕ) → i < length firsts → x ≡ get_or firsts i x
    → ((s d : ℕ) (cost : List ℕ) (to : ℕ) → StepsBy fs s d cost to ↔ (StepsBy es s d cost to ⊎ IsAnyStep state (take i firsts) s d cost to))
    → ((s d : ℕ) (cost : List ℕ) (to : ℕ) → StepsBy ls s d cost to ↔ (StepsBy fs s d cost to ⊎ IsStep state x s d cost to))
    → (s d : ℕ) (cost : List ℕ) (to : ℕ) → StepsBy ls s d cost to ↔ (StepsBy es s d cost to ⊎ IsAnyStep state (take (i + 1) firsts) s d cost to)
steps_more es fs ls state firsts i x h at f g s d cost to =
    let t : take (i + 1) firsts ≡ take i firsts ++ x ∷ [] = take_more firsts i x h ∙ ap (λ y. take i firsts ++ y ∷ []) (sym at) in (
      λ k. ⊎_elim (λ a. ⊎_elim inl (λ b. inr (b.0, subst (λ xs. Contains xs b.0) (sym t) (Contains-append_left (take i firsts) (x ∷ []) b.0 b.1), b.2)) ((f s d cost to).0 a))
          (λ b. inr (x, subst (λ xs. Contains xs x) (sym t) (Contains-append_right (take i firsts) (x ∷ []) x (0, omega arith, refl)), b))
          ((g s d cost to).0 k),
      λ k. (g s d cost to).1 (⊎_elim (λ a. inl ((f s d cost to).1 (inl a)))
          (λ b. ⊎_elim (λ o. inl ((f s d cost to).1 (inr (b.0, o, b.2)))) (λ o. inr (subst (λ y. IsStep state y s d cost to) (sym (only_one x b.0 o)) b.2)) (Contains-append_cases (take i firsts) (x ∷ []) b.0 (subst (λ xs. Contains xs b.0) t b.1))) k),
    )

pub end_added : (old new : List End) (cost0 : List ℕ) (state : ℕ) → cost0 ≡ [] → new ≡ old ++ ending state cost0 ∷ []
    → (s : ℕ) (cost : List ℕ) → EndsAt new s cost ↔ (EndsAt old s cost ⊎ ((state ≡ s) × IsTrue true × (cost ≡ [])))
end_added old new cost0 state z e s cost = (
  λ k. ⊎_elim inl (λ h. inr (h.0, refl, sym h.1 ∙ z)) (Any-push_cases (λ (x : End). (x.at ≡ s) × (x.cost ≡ cost)) old (ending state cost0) (subst (λ es. EndsAt es s cost) e k)),
  λ k. subst (λ es. EndsAt es s cost) (sym e) (⊎_elim (Any-append_left (λ (x : End). (x.at ≡ s) × (x.cost ≡ cost)) old (ending state cost0 ∷ []))
      (λ h. Any-push (λ (x : End). (x.at ≡ s) × (x.cost ≡ cost)) old (ending state cost0) (h.0, z ∙ sym h.2)) k),
)

-- the end of a node that may have one
pub stop_none : (old : List End) (state : ℕ) (b : Bool) → b ≡ false → (s : ℕ) (cost : List ℕ) → EndsAt old s cost ↔ (EndsAt old s cost ⊎ ((state ≡ s) × IsTrue b × (cost ≡ [])))
stop_none old state b e s cost = (inl, λ k. ⊎_elim (λ a. a) (λ x. not_both b x.1 e) k)

pub stop_some : (old new : List End) (cost0 : List ℕ) (state : ℕ) (b : Bool) → b ≡ true → cost0 ≡ [] → new ≡ old ++ ending state cost0 ∷ []
    → (s : ℕ) (cost : List ℕ) → EndsAt new s cost ↔ (EndsAt old s cost ⊎ ((state ≡ s) × IsTrue b × (cost ≡ [])))
stop_some old new cost0 state b t z e s cost = subst (λ x. EndsAt new s cost ↔ (EndsAt old s cost ⊎ ((state ≡ s) × IsTrue x × (cost ≡ [])))) (sym t) (end_added old new cost0 state z e s cost)

-- the node that is at a place of one more
which : (ns : List OutputNode) (n m : OutputNode) (s : ℕ) → slice_get (ns ++ n ∷ []) s ≡ Some m → (slice_get ns s ≡ Some m) ⊎ ((length ns ≡ s) × (n ≡ m))
which [] n m zero e = inr (refl, same_Some n m e)
which [] n m (suc s) e = absurd (cc)
which (x ∷ ns) n m zero e = inl e
which (x ∷ ns) n m (suc s) e = ⊎_elim inl (λ r. inr (ap suc r.0, r.1)) (which ns n m s e)

pub built_more : (g h : Graph) (ns : List OutputNode) (n : OutputNode) (state : ℕ) → state ≡ length ns → IsBuilt g ns
    → ((s d : ℕ) (cost : List ℕ) (to : ℕ) → StepsBy h.edges s d cost to ↔ (StepsBy g.edges s d cost to ⊎ IsAnyStep state n.firsts s d cost to))
    → ((s : ℕ) (cost : List ℕ) → EndsAt h.ends s cost ↔ (EndsAt g.ends s cost ⊎ ((state ≡ s) × IsTrue n.ends × (cost ≡ []))))
    → IsBuilt h (ns ++ n ∷ [])
built_more g h ns n state at b steps ends = record {
  ends = λ s cost. (
    λ k. ⊎_elim (λ a. let o = (b.ends s cost).0 a in (o.0, slice_get-append ns (n ∷ []) s o.0 o.1, o.2, o.3)) (λ x. (n, last s x.0, x.1, x.2)) ((ends s cost).0 k),
    λ k. (ends s cost).1 (⊎_elim (λ o. inl ((b.ends s cost).1 (k.0, o, k.2, k.3))) (λ r. inr (at ∙ r.0, subst (λ (x : OutputNode). IsTrue x.ends) (sym r.1) k.2, k.3)) (which ns n k.0 s k.1)),
  );
  steps = λ s c cost to. (
    λ k. ⊎_elim (λ a. let o = (b.steps s c cost to).0 a in (o.0, slice_get-append ns (n ∷ []) s o.0 o.1, o.2)) (λ x. (n, last s x.2.0, (x.0, x.1, (refl, x.2.1, x.2.2, x.2.3)))) ((steps s c cost to).0 k),
    λ k. (steps s c cost to).1 (⊎_elim (λ o. inl ((b.steps s c cost to).1 (k.0, o, k.2))) (λ r. inr (k.2.0, subst (λ (x : OutputNode). Contains {X = ℕ × ℕ} x.firsts k.2.0) (sym r.1) k.2.1, (at ∙ r.0, k.2.2.1, k.2.2.2, k.2.2.3))) (which ns n k.0 s k.1)),
  );
}
  where
    last : (s : ℕ) → state ≡ s → slice_get (ns ++ n ∷ []) s ≡ Some n
    last s e = subst (λ x. slice_get (ns ++ n ∷ []) x ≡ Some n) (sym at ∙ e) (slice_get-end ns n)

no_end : (s : ℕ) (cost : List ℕ) → EndsAt [] s cost → ⊥
no_end s cost (k, x, h, e, p) = omega (arith, h)

no_step : (s c : ℕ) (cost : List ℕ) (to : ℕ) → StepsBy [] s c cost to → ⊥
no_step s c cost to (k, x, h, e, p) = omega (arith, h)

pub built_none : (g : Graph) → g.edges ≡ [] → g.ends ≡ [] → IsBuilt g []
built_none g e f = record {
  ends = λ s cost. (λ k. absurd (no_end s cost (subst (λ xs. EndsAt xs s cost) f k)), λ k. absurd (let a = k.1 in cc (a)));
  steps = λ s c cost to. (λ k. absurd (no_step s c cost to (subst (λ xs. StepsBy xs s c cost to) e k)), λ k. absurd (let a = k.1 in cc (a)));
}

-- the words of the machine
module _ (g : Graph) (first : OutputNode) (ns : List OutputNode) (b : IsBuilt g (first ∷ ns)) where
  to_node : (w : List ℕ) (s : ℕ) (cost : List ℕ) → RunsFrom (EndsAt g.ends) (StepsBy g.edges) s w cost → (n : OutputNode) × (slice_get (first ∷ ns) s ≡ Some n) × NodeSpells ns w n
  to_node [] s cost r = (let k = (b.ends s cost).0 r in (k.0, k.1, k.2))
  to_node (c ∷ w) s cost r =
      let k = (b.steps s c r.0 r.1).0 r.3 in
      let m = to_node w r.1 r.2 r.4 in
      let up : r.1 ≡ suc k.2.0.1 = (let e = k.2.2.3 in omega (arith, e)) in
      let at : slice_get ns k.2.0.1 ≡ Some m.0 = subst (λ x. slice_get (first ∷ ns) x ≡ Some m.0) up m.1 in
      (k.0, k.1, (k.2.0.1, m.0, subst (λ x. Contains {X = ℕ × ℕ} k.0.firsts (x, k.2.0.1)) k.2.2.1 k.2.1, at, m.2))

  from_node : (w : List ℕ) (s : ℕ) (n : OutputNode) → slice_get (first ∷ ns) s ≡ Some n → NodeSpells ns w n → RunsFrom (EndsAt g.ends) (StepsBy g.edges) s w []
  from_node [] s n at h = (b.ends s []).1 (n, at, h, refl)
  from_node (c ∷ w) s n at h =
      let up : h.0 + 1 ≡ suc h.0 = omega arith in
      ([], suc h.0, [], (b.steps s c [] (suc h.0)).1 (n, at, ((c, h.0), h.2, (refl, refl, refl, sym up))), from_node w (suc h.0) h.1 h.3 h.4, refl)

  pub accepts : (w : List ℕ) → Accepts g w [] ↔ NodeSpells ns w first
  accepts w = (λ r. let k = to_node w 0 [] r in subst (NodeSpells ns w) (sym (same_Some first k.0 k.1)) k.2, λ h. from_node w 0 first refl h)

pub item_there : {X : Type 0} (xs : List X) (i : ℕ) (x : X) → i < length xs → x ≡ get_or xs i x → Contains xs x
item_there xs i x h e = (i, h, sym e)

pub built_one : (g : Graph) (ns : List OutputNode) (m n : OutputNode) (k : ℕ) → IsBuilt g (m ∷ []) → k < length ns → m ≡ get_or ns k m → slice_get ns k ≡ Some n → IsBuilt g (n ∷ [])
built_one g ns m n k b h e at = subst (λ x. IsBuilt g (x ∷ [])) (e ∙ get_or_from_slice_get ns k n m at) b

abbrev none : OutputNode
none = record { firsts = []; ends = false }

pub machine_words : (g : Graph) (ns : List OutputNode) (k : ℕ) → k < length ns → ((n : OutputNode) → slice_get ns k ≡ Some n → IsBuilt g (n ∷ ns)) → (w : List ℕ) → Accepts g w [] ↔ Spells ns k w
machine_words g ns k h b w =
    let n = get_or ns k none in
    let at = slice_get-get_or ns k none h in
    let a = accepts g (get_or ns k none) ns (b (get_or ns k none) at) w in
    (λ r. (get_or ns k none, at, a.0 r), λ s. a.1 (subst (NodeSpells ns w) (same_Some s.0 (get_or ns k none) (sym s.1 ∙ at)) s.2))
