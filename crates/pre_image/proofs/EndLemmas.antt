-- Where a run ends once it went along a word, and the moves of a pre-image.
use Rattle.std.proofs.Common.{◌≡◌, ℕ, ◌+◌, ◌*◌, ◌<◌, ◌≤◌, ◌^◌, ◌↔◌, IsTrue, max, List, [], length, Any, Contains, refl, sym, ap, ap₂, ◌∙◌, subst, append-nil, mul-le-mul_left, arith}
use Rattle.sv_word.specs.Ranges.{in_ranges}
use Rattle.machine_core.specs.declared.machine.Move.{Move}
use Rattle.machine_core.specs.declared.graph.Graph.{Graph}
use Rattle.machine_core.specs.Costs.{add_costs, CanAdd}
use Rattle.machine_core.specs.Moves.{Moves}
use Rattle.machine_core.specs.Language.{RunsFrom}
use Rattle.machine_core.specs.LanguageLaws.{runs_join, runs_cut}
use Rattle.sv_list.specs.Lists.{Any-contains, contained}
use Rattle.machine_core.specs.Edges.{EndsAt, StepsBy, edges_top, ends_top}
use Rattle.machine_core.specs.EdgeLaws.{end_most, listed_paths, path_target, path_width, run_width}
use Rattle.sv_terms.specs.Language.{Word}
use Rattle.sv_terms.specs.declared.transducer.TransEdge.{TransEdge}
use Rattle.sv_terms.specs.declared.transducer.Transducer.{Transducer}
use Rattle.sv_terms.specs.TransducerSizes.{items_size, edges_most, ends_most}
use Rattle.sv_terms.specs.TransducerSizeLaws.{edge_most}
use Rattle.pre_image.specs.PreImages.{PreEnds, PreSteps, pre_top}
use Rattle.pre_image.specs.PreLaws.{end_writes}
use Rattle.pre_image.specs.Leading.{Goes, AreLeads, Passes, EndsInPair}
use Rattle.pre_image.proofs.LeadLemmas.{lead-path}

-- a lead, and a cost at which a word may end where it ends
abbrev pub EndsThere : Graph → List ℕ → Move ℕ → Type 0
EndsThere m cost lead = (k : List ℕ) × EndsAt m.ends lead.to k × (add_costs lead.cost k ≡ cost)

module _ (m : Graph) (s : ℕ) (word : List ℕ) (W : ℕ → List ℕ) (same : (c : ℕ) → W c ≡ word) (leads : List (Move ℕ)) (h : AreLeads m s 0 0 W leads) where
  -- runs on the word to an end are leads with an end
  pub leads-end : (cost : List ℕ) → Any (EndsThere m cost) leads ↔ RunsFrom (EndsAt m.ends) (StepsBy m.edges) s word cost
  leads-end cost = (
    λ a.
        let f = contained (EndsThere m cost) leads a in
        let l = f.0 in
        let p = lead-path m s 0 0 W leads h l f.1 in
        let path = subst (λ w. Goes m s w l.cost l.to) (same p.0) p.1 in
        let run = runs_join (EndsAt m.ends) (StepsBy m.edges) m.registers l.to [] f.2.0 (end_most m.states m.registers m.edges m.ends m.formed l.to f.2.0 f.2.1).entries f.2.1 word s l.cost path in
        subst (RunsFrom (EndsAt m.ends) (StepsBy m.edges) s word) f.2.2 (subst (λ w. RunsFrom (EndsAt m.ends) (StepsBy m.edges) s w (add_costs l.cost f.2.0)) (append-nil word) run),
    λ r.
        let c = runs_cut (EndsAt m.ends) (StepsBy m.edges) m.registers (run_width m.states m.registers m.edges m.ends m.formed) [] word s cost (subst (λ w. RunsFrom (EndsAt m.ends) (StepsBy m.edges) s w cost) (sym (append-nil word)) r) in
        let goes = subst (λ w. Goes m s w c.1 c.0) (sym (same 0)) c.3 in
        let l = contained (Moves 0 c.1 c.0) leads ((h.exact 0 c.1 c.0).0 (omega arith, omega arith, goes)) in
        Any-contains (EndsThere m cost) leads l.0 l.1
        (c.2, subst (λ n. EndsAt m.ends n c.2) (sym l.2.2) c.4, ap (λ k. add_costs k c.2) l.2.1 ∙ sym c.5),
  )

  pub lead-state : s < m.states → (l : Move ℕ) → Contains leads l → l.to < m.states
  lead-state lt l i = let p = lead-path m s 0 0 W leads h l i in path_target m.states m.registers m.edges m.ends m.formed (W p.0) s l.to l.cost lt p.1

  -- and the costs of these ends can be added
  pub ends-add : s < m.states → edges_top m.edges * length word + ends_top m.ends < 2 ^ 64 → (l : Move ℕ) → Contains leads l → (ends : List (List ℕ))
      → ((cost : List ℕ) → EndsAt m.ends l.to cost ↔ Any (λ e. e ≡ cost) ends) → (k : List ℕ) → Contains ends k → CanAdd l.cost k
  ends-add lt room l i ends exact k at =
      let p = lead-path m s 0 0 W leads h l i in
      let end = (exact k).1 (Any-contains (λ e. e ≡ k) ends k at refl) in
      let most = end_most m.states m.registers m.edges m.ends m.formed l.to k end in
      record {
        same = path_width m.states m.registers m.edges m.ends m.formed l.to (W p.0) s l.cost p.1 ∙ sym most.entries;
        fits = λ j.
            let b = listed_paths m.states m.registers m.edges m.ends m.formed j l.to s (W p.0) l.cost lt p.1 in
            let e = most.below j in
            let size = ap length (same p.0) in
            let size' = ap (λ n. edges_top m.edges * n) size in
            omega arith;
      }

-- the ends of one lead, added to its cost
pub sums-there : (m : Graph) (l : Move ℕ) (ends : List (List ℕ)) → ((cost : List ℕ) → EndsAt m.ends l.to cost ↔ Any (λ e. e ≡ cost) ends)
    → (cost : List ℕ) → Any (λ k. add_costs l.cost k ≡ cost) ends ↔ EndsThere m cost l
sums-there m l ends exact cost = (
  λ a. let f = contained (λ k. add_costs l.cost k ≡ cost) ends a in (f.0, (exact f.0).1 (Any-contains (λ e. e ≡ f.0) ends f.0 f.1 refl), f.2),
  λ e. let f = contained (λ k. k ≡ e.0) ends ((exact e.0).0 e.1) in Any-contains (λ k. add_costs l.cost k ≡ cost) ends f.0 f.1 (ap (add_costs l.cost) f.2 ∙ e.2),
)

-- a lead as a move of the pre-image
abbrev pub Sent : ℕ → ℕ → List ℕ → ℕ × ℕ → Move ℕ → Type 0
Sent to c cost goal lead = (to ≡ goal.0) × Moves c cost goal.1 lead

pub sent-move : (to : ℕ) (lead : Move ℕ) (on : List (ℕ × ℕ)) (k : List ℕ) → on ≡ lead.on → k ≡ lead.cost → (c : ℕ) (cost : List ℕ) (goal : ℕ × ℕ)
    → Moves c cost goal (record { on = on; cost = k; to = (to, lead.to) }) ↔ Sent to c cost goal lead
sent-move to lead on k e f c cost goal = (
  λ h. (ap (λ (p : ℕ × ℕ). p.0) h.2, (subst (λ l. IsTrue (in_ranges l c)) e h.0, sym f ∙ h.1, ap (λ (p : ℕ × ℕ). p.1) h.2)),
  λ s. (subst (λ l. IsTrue (in_ranges l c)) (sym e) s.1.0, f ∙ s.1.1, ap₂ (λ (a b : ℕ). (a, b)) s.0 s.1.2),
)

pub sent-all : (m : Graph) (s low high : ℕ) (W V : ℕ → List ℕ) → ((c : ℕ) → W c ≡ V c) → (leads : List (Move ℕ)) → AreLeads m s low high W leads → (to c : ℕ) (cost : List ℕ) (goal : ℕ × ℕ)
    → Any (Sent to c cost goal) leads ↔ ((to ≡ goal.0) × (low ≤ c) × (c ≤ high) × Goes m s (V c) cost goal.1)
sent-all m s low high W V same leads h to c cost goal = (
  λ a.
      let f = contained (Sent to c cost goal) leads a in
      let r = (h.exact c cost goal.1).1 (Any-contains (Moves c cost goal.1) leads f.0 f.1 f.2.1) in
      (f.2.0, r.0, r.1, subst (λ w. Goes m s w cost goal.1) (same c) r.2),
  λ g.
      let f = contained (Moves c cost goal.1) leads ((h.exact c cost goal.1).0 (g.1, g.2, subst (λ w. Goes m s w cost goal.1) (sym (same c)) g.3)) in
      Any-contains (Sent to c cost goal) leads f.0 f.1 (g.0, f.2),
)

module _ (t : Transducer) (m : Graph) where
  pub all-ends : (at : ℕ × ℕ) (cost : List ℕ) → Any (EndsInPair m at cost) t.ends ↔ PreEnds t m at cost
  all-ends at cost = (
    λ a. let f = contained (EndsInPair m at cost) t.ends a in (f.0.1, subst (λ n. Contains t.ends (n, f.0.1)) f.2.0 f.1, f.2.1),
    λ e. Any-contains (EndsInPair m at cost) t.ends (at.0, e.0) e.1 (refl, e.2),
  )

  pub all-moves : (at : ℕ × ℕ) (c : ℕ) (cost : List ℕ) (to : ℕ × ℕ) → PreSteps t m at c cost to ↔ Any (Passes m at c cost to) t.edges
  all-moves at c cost to = (
    λ s. Any-contains (Passes m at c cost to) t.edges s.0 s.1.0 (s.1.1, s.1.2, s.1.3, s.2, s.3),
    λ a. let f = contained (Passes m at c cost to) t.edges a in (f.0, (f.1, f.2.0, f.2.1, f.2.2), f.2.3, f.2.4),
  )

  below-top : (e n most rest : ℕ) → n ≤ most → e * n + rest ≤ e * most + rest
  below-top e n most rest h = let grown = mul-le-mul_left e h in omega arith

  pub end-fits : pre_top t m < 2 ^ 64 → (e : ℕ × Word) → Contains t.ends e → edges_top m.edges * length e.1 + ends_top m.ends < 2 ^ 64
  end-fits room e i =
      let w = end_writes t e.0 e.1 i in
      let most : length e.1 ≤ max (edges_most t.edges) (ends_most t.ends) = omega arith in
      let b = below-top (edges_top m.edges) (length e.1) (max (edges_most t.edges) (ends_most t.ends)) (ends_top m.ends) most in
      omega arith

  pub edge-fits : pre_top t m < 2 ^ 64 → (e : TransEdge) → Contains t.edges e → edges_top m.edges * items_size e.items < 2 ^ 64
  edge-fits room e i =
      let w = edge_most t.edges e i in
      let most : items_size e.items ≤ max (edges_most t.edges) (ends_most t.ends) = omega arith in
      let b = below-top (edges_top m.edges) (items_size e.items) (max (edges_most t.edges) (ends_most t.ends)) (ends_top m.ends) most in
      omega arith
