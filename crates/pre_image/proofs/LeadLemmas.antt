-- Leads gone on by a step: where a machine may be once it went along one character more.
use Rattle.std.proofs.Common.{◌≡◌, ℕ, zero, suc, ◌+◌, ◌*◌, ◌<◌, ◌≤◌, ◌^◌, ◌↔◌, inl, inr, ◌&&◌, nat_le, IsTrue, List, [], ◌∷◌, ◌++◌, length, Any, All, Contains, refl, sym, ap, ◌∙◌, subst, mul-le-mul_left, arith}
use Rattle.std.proofs.lemmas.List.{length-map}
use Rattle.std.proofs.lemmas.Bool.{leb-true, le-leb, and_from}
use Rattle.sv_word.specs.Ranges.{in_ranges, IsInhabited, least_of}
use Rattle.machine_core.specs.declared.machine.Move.{Move}
use Rattle.machine_core.specs.declared.graph.Graph.{Graph}
use Rattle.machine_core.specs.Costs.{add_costs, zeros, CanAdd}
use Rattle.machine_core.specs.CostLaws.{add_costs-zeros}
use Rattle.machine_core.specs.Moves.{Moves}
use Rattle.machine_core.specs.Language.{StopsAt}
use Rattle.machine_core.specs.LanguageLaws.{runs_join, runs_cut}
use Rattle.sv_list.specs.Lists.{Any-none, Any-here, Any-cases, Any-contains, contained}
use Rattle.sv_list.specs.Bools.{and-first, and-second}
use Rattle.machine_core.specs.Edges.{StepsBy, edges_top}
use Rattle.machine_core.specs.EdgeLaws.{step_most, listed_paths, path_target, path_width}
use Rattle.sv_terms.specs.Language.{Word}
use Rattle.pre_image.specs.declared.letter.Letter.{Letter}
use Rattle.pre_image.specs.Leading.{next_of, spelled, Goes, GoesOn, Led, IsLead, AreLeads}

-- the moves of a machine, each joined to a lead, are its steps joined to it
pub steps-led : (m : Graph) (next : Letter) (lead : Move ℕ) (steps : List (Move ℕ))
    → ((c : ℕ) (cost : List ℕ) (to : ℕ) → StepsBy m.edges lead.to c cost to ↔ Any (Moves c cost to) steps)
    → (c : ℕ) (cost : List ℕ) (to : ℕ) → Any (GoesOn next lead c cost to) steps ↔ Led m next c cost to lead
steps-led m next lead steps exact c cost to = (
  λ a.
      let f = contained (GoesOn next lead c cost to) steps a in
      let s = f.0 in
      let g = f.2 in
      (g.0, s.cost, (exact (next_of next c) s.cost to).1 (Any-contains (Moves (next_of next c) s.cost to) steps s f.1 (g.1, refl, g.3)), g.2),
  λ l.
      let f = contained (Moves (next_of next c) l.1 to) steps ((exact (next_of next c) l.1 to).0 l.2) in
      Any-contains (GoesOn next lead c cost to) steps f.0 f.1 (l.0, f.2.0, ap (add_costs lead.cost) f.2.1 ∙ l.3, f.2.2),
)

module _ (m : Graph) where
  -- a path on one character more is a path and a step
  pub goes-more : (s : ℕ) (u : Word) (t d to : ℕ) (a k : List ℕ) → Goes m s u a t → StepsBy m.edges t d k to → Goes m s (u ++ d ∷ []) (add_costs a k) to
  goes-more s u t d to a k g st =
      let wide = (step_most m.states m.registers m.edges m.ends m.formed t to d k st).entries in
      runs_join (StopsAt m.registers to) (StepsBy m.edges) m.registers t (d ∷ []) k wide
      (k, to, zeros m.registers, st, (refl, refl), sym (add_costs-zeros k m.registers wide)) u s a g

  pub goes-less : (s : ℕ) (u : Word) (d to : ℕ) (cost : List ℕ) → Goes m s (u ++ d ∷ []) cost to
      → (t : ℕ) × (a k : List ℕ) × Goes m s u a t × StepsBy m.edges t d k to × (add_costs a k ≡ cost)
  goes-less s u d to cost g =
      let c = runs_cut (StopsAt m.registers to) (StepsBy m.edges) m.registers (path_width m.states m.registers m.edges m.ends m.formed to) (d ∷ []) u s cost g in
      let last = c.4 in
      let wide = (step_most m.states m.registers m.edges m.ends m.formed c.0 last.1 d last.0 last.3).entries in
      let free = last.5 ∙ ap (add_costs last.0) last.4.1 ∙ add_costs-zeros last.0 m.registers wide in
      (c.0, c.1, last.0, c.3, subst (StepsBy m.edges c.0 d last.0) last.4.0 last.3, ap (add_costs c.1) (sym free) ∙ sym c.5)

  module _ (s low high : ℕ) where
    -- before anything is written
    pub leads-first : (on : List (ℕ × ℕ)) → ((c : ℕ) → IsTrue (in_ranges on c) ↔ ((low ≤ c) × (c ≤ high))) → IsInhabited on → (cost : List ℕ) → cost ≡ zeros m.registers
        → AreLeads m s low high (λ c. []) (record { on = on; cost = cost; to = s } ∷ [])
    leads-first on set some cost none = record {
      exact = λ c k to. (
        λ g. Any-here (Moves c k to) lead [] ((set c).1 (g.0, g.1), none ∙ sym g.2.1, g.2.0),
        λ a. elim (Any-cases (Moves c k to) lead [] a) [
          | inl h ↦ let r = (set c).0 h.0 in (r.0, r.1, (h.2, sym h.1 ∙ none))
          | inr n ↦ absurd (Any-none (Moves c k to) n)
        ],
      );
      inhabited = inhabited;
    }
      where
        lead : Move ℕ
        lead = record { on = on; cost = cost; to = s }

        inhabited : (l : Move ℕ) → Contains (record { on = on; cost = cost; to = s } ∷ []) l → IsInhabited l.on
        inhabited l (zero, k, e) = subst (λ (l : Move ℕ). IsInhabited l.on) e some
        inhabited l (suc i, k, e) = absurd (omega (arith, k))

    module _ (W : ℕ → List ℕ) (leads : List (Move ℕ)) (h : AreLeads m s low high W leads) where
      -- each lead stands for a path
      pub lead-path : (l : Move ℕ) → Contains leads l → (c : ℕ) × Goes m s (W c) l.cost l.to
      lead-path l i =
          let c = least_of l.on in
          let r = (h.exact c l.cost l.to).1 (Any-contains (Moves c l.cost l.to) leads l i (h.inhabited l i, refl, refl)) in
          (c, r.2)

      pub lead-fits : s < m.states → (most : ℕ) → edges_top m.edges * most < 2 ^ 64 → ((c : ℕ) → length (W c) < most) → (l : Move ℕ) → Contains leads l → IsLead m l
      lead-fits lt most room short l i =
          let p = lead-path l i in
          record {
            to = path_target m.states m.registers m.edges m.ends m.formed (W p.0) s l.to l.cost lt p.1;
            on = h.inhabited l i;
            width = path_width m.states m.registers m.edges m.ends m.formed l.to (W p.0) s l.cost p.1;
            fits = λ k.
                let b = listed_paths m.states m.registers m.edges m.ends m.formed k l.to s (W p.0) l.cost lt p.1 in
                let less = short p.0 in
                let grown = one-more (edges_top m.edges) (length (W p.0)) most less in
                omega arith;
          }
        where
          one-more : (e n most : ℕ) → n < most → e * n + e ≤ e * most
          one-more e n most lt =
              let le : suc n ≤ most = omega arith in
              let grown = mul-le-mul_left e le in
              let spread : e * suc n ≡ e * n + e = omega arith in
              omega arith

      pub leads-more : (next : Letter) (all : List (Move ℕ)) → ((c : ℕ) (cost : List ℕ) (to : ℕ) → Any (Moves c cost to) all ↔ Any (Led m next c cost to) leads)
          → ((l : Move ℕ) → Contains all l → IsInhabited l.on) → AreLeads m s low high (λ c. W c ++ next_of next c ∷ []) all
      leads-more next all exact inhabited = record {
        exact = λ c cost to. (
          λ g.
              let r = goes-less s (W c) (next_of next c) to cost g.2 in
              let old = contained (Moves c r.1 r.0) leads ((h.exact c r.1 r.0).0 (g.0, g.1, r.3)) in
              let l = old.0 in
              (exact c cost to).1 (Any-contains (Led m next c cost to) leads l old.1
              (old.2.0, r.2, subst (λ n. StepsBy m.edges n (next_of next c) r.2 to) (sym old.2.2) r.4, ap (λ k. add_costs k r.2) old.2.1 ∙ r.5)),
          λ a.
              let f = contained (Led m next c cost to) leads ((exact c cost to).0 a) in
              let l = f.0 in
              let r = (h.exact c l.cost l.to).1 (Any-contains (Moves c l.cost l.to) leads l f.1 (f.2.0, refl, refl)) in
              (r.0, r.1, subst (λ k. Goes m s (W c ++ next_of next c ∷ []) k to) f.2.3 (goes-more s (W c) l.to (next_of next c) to l.cost f.2.1 r.2 f.2.2)),
        );
        inhabited = inhabited;
      }

-- the same leads, for words that are the same
pub leads-same : (m : Graph) (s low high : ℕ) (W V : ℕ → List ℕ) (leads : List (Move ℕ)) → ((c : ℕ) → V c ≡ W c) → AreLeads m s low high W leads → AreLeads m s low high V leads
leads-same m s low high W V leads e h = record {
  exact = λ c cost to. (
    λ g. (h.exact c cost to).0 (g.0, g.1, subst (λ w. Goes m s w cost to) (e c) g.2),
    λ a. let r = (h.exact c cost to).1 a in (r.0, r.1, subst (λ w. Goes m s w cost to) (sym (e c)) r.2),
  );
  inhabited = h.inhabited;
}

-- a move from where a lead ends can be added to it
pub lead-adds : (m : Graph) (lead : Move ℕ) → IsLead m lead → (steps : List (Move ℕ))
    → ((c : ℕ) (cost : List ℕ) (to : ℕ) → StepsBy m.edges lead.to c cost to ↔ Any (Moves c cost to) steps) → All (λ (l : Move ℕ). IsInhabited l.on) steps
    → (s : Move ℕ) → Contains steps s → CanAdd lead.cost s.cost
lead-adds m lead h steps exact inhabited s i =
    let on = subst (λ (l : Move ℕ). IsInhabited l.on) i.2 (inhabited i.0 s i.1) in
    let step = (exact (least_of s.on) s.cost s.to).1 (Any-contains (Moves (least_of s.on) s.cost s.to) steps s i (on, refl, refl)) in
    let most = step_most m.states m.registers m.edges m.ends m.formed lead.to s.to (least_of s.on) s.cost step in
    record {
      same = h.width ∙ sym most.entries;
      fits = λ k. (let a = h.fits k in let b = most.below k in omega arith);
    }

-- what was written is as long as what was looked at
pub spelled-length : (nexts : List Letter) (c : ℕ) → length (spelled nexts c) ≡ length nexts
spelled-length nexts c = length-map nexts (λ n. next_of n c)

pub between-set : (on : List (ℕ × ℕ)) (low high : ℕ) → ((c : ℕ) → in_ranges on c ≡ (nat_le low c && nat_le c high)) → (c : ℕ) → IsTrue (in_ranges on c) ↔ ((low ≤ c) × (c ≤ high))
between-set on low high set c = (
  λ t. let b = sym (set c) ∙ t in
      (leb-true low c (and-first (nat_le low c) (nat_le c high) b), leb-true c high (and-second (nat_le low c) (nat_le c high) b)),
  λ h. set c ∙ and_from (nat_le low c) (nat_le c high) (le-leb low c h.0) (le-leb c high h.1),
)
