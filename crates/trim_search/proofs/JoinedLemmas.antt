-- The node of a state whose moves are joined.
use Rattle.std.proofs.Common.{◌≡◌, ℕ, ◌≤◌, ◌<◌, ◌↔◌, List, length, Any, Contains, refl, sym, subst, arith}
use Rattle.sv_word.specs.Ranges.{least_of}
use Rattle.machine_core.specs.Costs.{cost_top}
use Rattle.machine_core.specs.CostLaws.{top_by-at, top_by-least}
use Rattle.machine_core.specs.Joined.{AreJoinedMoves}
use Rattle.sv_list.specs.Lists.{Any-contains, contained}
use Rattle.machine_core.specs.Moves.{Moves}
use Rattle.machine_core.specs.declared.machine.Move.{Move}
use Rattle.trim_search.specs.declared.node.StateMoves.{StateMoves}
use Rattle.trim_search.specs.Grown.{IsNodeOf}
use Rattle.trim_search.specs.Nodes.{IsNode, node_top}

-- each joined move has the cost and the target of one of the moves
joined-from : (moves joined : List (Move ℕ)) → AreJoinedMoves moves joined → (e : Move ℕ) → Contains joined e → (m : Move ℕ) × Contains moves m × (m.cost ≡ e.cost) × (m.to ≡ e.to)
joined-from moves joined h e i =
    let P = Moves (least_of e.on) e.cost e.to in
    let a = contained P moves ((h.exact (least_of e.on) e.cost e.to).0 (Any-contains P joined e i (h.inhabited e i, refl, refl))) in
    (a.0, a.1, a.2.1, a.2.2)

module _ (node joined : StateMoves) (ends : joined.ends ≡ node.ends) (edges : AreJoinedMoves node.edges joined.edges) where
  pub joined-node : {S : Type 0} (end : List ℕ → Type 0) (steps : ℕ → List ℕ → S → Type 0) (names : List S) → IsNodeOf end steps names node → IsNodeOf end steps names joined
  joined-node end steps names h = record {
    same_ends = subst (λ l. (cost : List ℕ) → end cost ↔ Any (λ e. e ≡ cost) l) (sym ends) h.same_ends;
    steps_in = λ c cost t s. let r = h.steps_in c cost t s in (r.0, r.1, (edges.exact c cost r.0).1 r.2);
    steps_out = λ c cost n a. h.steps_out c cost n ((edges.exact c cost n).0 a);
  }

  pub joined-formed : (registers count : ℕ) → IsNode registers count node → IsNode registers count joined
  joined-formed registers count h = record {
    ends = λ e i. h.ends e (subst (λ l. Contains l e) ends i);
    edges = λ e i. let m = joined-from node.edges joined.edges edges e i in let f = h.edges m.0 m.1 in record {
      on = edges.inhabited e i;
      cost = subst (λ (l : List ℕ). length l ≡ registers) m.2 f.cost;
      to = subst (λ n. n < count) m.3 f.to;
    };
  }

  pub joined-top : (top : ℕ) → node_top node ≤ top → node_top joined ≤ top
  joined-top top h =
      let f = λ (m : Move ℕ). cost_top m.cost in
      let e = top_by-least f joined.edges top (λ e i. let m = joined-from node.edges joined.edges edges e i in
      let below = top_by-at f node.edges m.0 m.1 in
      subst (λ (l : List ℕ). cost_top l ≤ top) m.2 (omega arith)) in
      let same = ends in
      rw same (omega arith)
