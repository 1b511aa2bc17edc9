-- Runs in turn and runs on the joined word: the cuts of a run are exact.
use Rattle.std.proofs.Common.{◌≡◌, ℕ, zero, suc, ◌<◌, ◌↔◌, List, [], ◌∷◌, ◌++◌, length, map, Contains, refl, sym, ap, ◌∙◌, subst, append-nil, arith}
use Rattle.std.proofs.lemmas.List.{length-map}
use Rattle.machine_core.specs.declared.graph.Graph.{Graph}
use Rattle.machine_core.specs.Costs.{add_costs, zeros}
use Rattle.machine_core.specs.CostLaws.{add_costs-zeros}
use Rattle.machine_core.specs.Language.{RunsFrom}
use Rattle.machine_core.specs.LanguageLaws.{runs_join, runs_cut}
use Rattle.machine_core.specs.Edges.{EndsAt, StepsBy}
use Rattle.machine_core.specs.Graphs.{Accepts}
use Rattle.sv_terms.specs.Language.{Word}
use Rattle.sv_terms.specs.Meaning.{joined}
use Rattle.backward.specs.Families.{Family, Words, HasMachine, put, Conf}
use Rattle.backward.specs.Pieces.{RunsInTurn, ConfCut, AreCuts}
use Rattle.backward.proofs.ConfLemmas.{take-out, take-in, free-put, put-same}
use Rattle.machine_core.specs.EdgeLaws.{path_target, run_width}

module _ (m : Graph) where
  -- runs in turn make a run on the joined word
  pub turns-join : (s : ℕ) (cuts : List ℕ) (ws : List Word) (cost : List ℕ) → RunsInTurn m (s ∷ cuts) ws cost → RunsFrom (EndsAt m.ends) (StepsBy m.edges) s (joined ws) cost
  turns-join s cuts [] cost h = absurd h
  turns-join s [] (w ∷ []) cost h =
      let free : h.0 ≡ cost = sym (add_costs-zeros h.0 m.registers (run_width m.states m.registers m.edges m.ends m.formed w s h.0 h.2)) ∙ ap (add_costs h.0) (sym h.3) ∙ h.4 in
      subst (λ l. RunsFrom (EndsAt m.ends) (StepsBy m.edges) s l cost) (sym (append-nil w)) (subst (RunsFrom (EndsAt m.ends) (StepsBy m.edges) s w) free h.2)
  turns-join s [] (w ∷ v ∷ ws) cost h = absurd h.3
  turns-join s (t ∷ cuts) (w ∷ ws) cost h =
      let rest = turns-join t cuts ws h.1 h.3 in
      subst (RunsFrom (EndsAt m.ends) (StepsBy m.edges) s (w ++ joined ws)) h.4
      (runs_join (EndsAt m.ends) (StepsBy m.edges) m.registers t (joined ws) h.1 (run_width m.states m.registers m.edges m.ends m.formed (joined ws) t h.1 rest) rest w s h.0 h.2)

  abbrev AreBelow : List ℕ → Type 0
  AreBelow cuts = (t : ℕ) → Contains cuts t → t < m.states

  below-none : AreBelow []
  below-none t h = omega (arith, h.1)

  below-more : (t : ℕ) (cuts : List ℕ) → t < m.states → AreBelow cuts → AreBelow (t ∷ cuts)
  below-more t cuts lt h u (zero, k, e) = subst (λ n. n < m.states) e lt
  below-more t cuts lt h u (suc i, k, e) = h u (i, omega (arith, k), e)

  -- and each run on it can be cut so
  pub turns-cut : (w : Word) (ws : List Word) (s : ℕ) (cost : List ℕ) → s < m.states → RunsFrom (EndsAt m.ends) (StepsBy m.edges) s (joined (w ∷ ws)) cost
      → (cuts : List ℕ) × (length ws ≡ length cuts) × AreBelow cuts × RunsInTurn m (s ∷ cuts) (w ∷ ws) cost
  turns-cut w [] s cost lt r =
      let whole = subst (λ l. RunsFrom (EndsAt m.ends) (StepsBy m.edges) s l cost) (append-nil w) r in
      ([], refl, below-none, (cost, zeros m.registers, whole, refl, add_costs-zeros cost m.registers (run_width m.states m.registers m.edges m.ends m.formed w s cost whole)))
  turns-cut w (v ∷ ws) s cost lt r =
      let c = runs_cut (EndsAt m.ends) (StepsBy m.edges) m.registers (run_width m.states m.registers m.edges m.ends m.formed) (joined (v ∷ ws)) w s cost r in
      let t = path_target m.states m.registers m.edges m.ends m.formed w s c.0 c.1 lt c.3 in
      let rest = turns-cut v ws c.0 c.2 t c.4 in
      (c.0 ∷ rest.0, ap suc rest.1, below-more c.0 rest.0 t rest.2, (c.1, c.2, c.3, rest.3, sym c.5))

module _ (width : ℕ) (ms : Family) (x : ℕ) (m : Graph) (h : HasMachine ms x m) (words : Words) where
  pub cuts-within : (pieces cuts totals : List ℕ) → ConfCut width ms x pieces cuts words totals → Conf width ms (put words x (joined (map words pieces))) totals
  cuts-within pieces cuts totals c =
      let w = joined (map words pieces) in
      let k = c.0 in
      let there = c.3 in
      let same : k ≡ m = cc in
      let run = subst (λ g. Accepts g w c.1) same (turns-join k 0 cuts (map words pieces) c.1 c.4) in
      take-in width m ms x h (put words x w) totals
      (c.1, c.2, subst (λ l. Accepts m l c.1) (sym (put-same words x w)) run, (free-put width ms x words w c.2).0 c.5, c.6)

  pub cuts-reach : (p : ℕ) (pieces totals : List ℕ) → Conf width ms (put words x (joined (map words (p ∷ pieces)))) totals
      → (cuts : List ℕ) × AreCuts m (p ∷ pieces) cuts × ConfCut width ms x (p ∷ pieces) cuts words totals
  cuts-reach p pieces totals c =
      let w = joined (map words (p ∷ pieces)) in
      let t = take-out width m ms x h (put words x w) totals c in
      let run = subst (λ l. Accepts m l t.0) (put-same words x w) t.2 in
      let cut = turns-cut m (words p) (map words pieces) 0 t.0 m.started run in (
        cut.0,
        record { count = ap suc (sym (length-map pieces words) ∙ cut.1); states = cut.2 },
        (m, t.0, t.1, h, cut.3, (free-put width ms x words w t.1).1 t.3, t.4),
      )

  pub cuts-exact : (pieces totals : List ℕ) → 0 < length pieces
      → ((cuts : List ℕ) × AreCuts m pieces cuts × ConfCut width ms x pieces cuts words totals) ↔ Conf width ms (put words x (joined (map words pieces))) totals
  cuts-exact [] totals some = absurd (omega (arith, some))
  cuts-exact (p ∷ pieces) totals some = (λ c. cuts-within (p ∷ pieces) c.0 totals c.2, cuts-reach p pieces totals)
