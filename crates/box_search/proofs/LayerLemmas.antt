-- All machines in turn as one machine: each choice of runs of all machines is one of its words.
use Rattle.std.proofs.Common.{◌≡◌, ℕ, zero, suc, ◌+◌, ◌<◌, inl, inr, List, [], ◌∷◌, length, drop, slice_get, Some, refl, ap, sym, ◌∙◌, subst, arith}
use Rattle.std.proofs.lemmas.List.Elements.{All-head, All-tail}
use Rattle.machine_core.specs.declared.graph.Graph.{Graph}
use Rattle.machine_core.specs.declared.run.Run.{Run}
use Rattle.machine_core.specs.Costs.{add_costs, zeros}
use Rattle.machine_core.specs.CostLaws.{add_costs-assoc, add_costs-length, add_costs-zeros, zeros-add_costs, zeros-length}
use Rattle.machine_core.specs.Edges.{EndsAt, StepsBy}
use Rattle.machine_core.specs.EdgeLaws.{step_target, step_cost, run_width}
use Rattle.machine_core.specs.Language.{RunsFrom}
use Rattle.machine_core.specs.Runs.{run_total}
use Rattle.machine_core.specs.RunLaws.{run_accepted}
use Rattle.search_hits.specs.Hits.{HaveRegisters, AreRunsOf, runs_total, characters}
use Rattle.box_layers.specs.declared.layer.Layer.{Layer}
use Rattle.box_layers.specs.Layers as Layers
use Rattle.box_layers.specs.Layers.{layer, AreWithinGreatest}
use Rattle.box_search.proofs.ShortLemmas.{below-parts, runs-wide}

get-drop : {X : Type 0} (xs : List X) (i : ℕ) (x : X) (rest : List X) → drop i xs ≡ x ∷ rest → (slice_get xs i ≡ Some x) × (drop (suc i) xs ≡ rest)
get-drop [] zero x rest e = cc
get-drop [] (suc i) x rest e = cc
get-drop (y ∷ []) zero x rest e = (cc, cc)
get-drop (y ∷ z ∷ ys) zero x rest e = (cc, cc)
get-drop (y ∷ ys) (suc i) x rest e = get-drop ys i x rest e

-- the characters of a word, the places of machines
size-last : (n more : ℕ) → n ≡ more → suc n ≡ 0 + 1 + more
size-last n more e = omega arith

size-next : (n w more : ℕ) → n ≡ w + 1 + more → suc n ≡ suc w + 1 + more
size-next n w more e = omega arith

size-all : (n w c ms : ℕ) → n ≡ w + 1 + (c + ms) → n ≡ w + c + suc ms
size-all n w c ms e = omega arith

place-first : (all : ℕ) → 0 + all ≡ all
place-first all = omega arith

place-last : (i all : ℕ) → i + 0 ≡ all → i ≡ all
place-last i all e = omega arith

place-next : (i n all : ℕ) → i + suc n ≡ all → suc i + n ≡ all
place-next i n all e = omega arith

module _ (machines : List Graph) (uppers : List ℕ) (good : List ℕ → Type 0) where
  abbrev LayerStep : Layer → ℕ → List ℕ → Layer → Type 0
  LayerStep = Layers.LayerStep machines uppers good

  abbrev LayerEnd : Layer → List ℕ → Type 0
  LayerEnd = Layers.LayerEnd machines uppers good

  -- a word that is read from a layer, of so many characters
  abbrev HasWord : Layer → ℕ → Type 0
  HasWord p size = (word cost : List ℕ) × RunsFrom LayerEnd LayerStep p word cost × (length word ≡ size)

  -- a run of the machine at work, and what is read from the start of the next one
  layer-path : (w : List ℕ) (m : Graph) (i s : ℕ) (v k : List ℕ) (more : ℕ) → slice_get machines i ≡ Some m → s < m.states → length v ≡ m.registers → RunsFrom (EndsAt m.ends) (StepsBy m.edges) s w k
      → AreWithinGreatest (add_costs v k) uppers → HasWord (layer (suc i) 0 (add_costs v k)) more → HasWord (layer i s v) (length w + 1 + more)
  layer-path [] m i s v k more at inside wide r low rest =
      (0 ∷ rest.0, add_costs k rest.1, (k, layer (suc i) 0 (add_costs v k), rest.1, record { graph = m; at_work = at; paid = refl; below = low; turn = inr (refl, refl, refl, r) }, rest.2, refl), size-last (length rest.0) more rest.3)
  layer-path (c ∷ w) m i s v k more at inside wide r low rest =
      let next = step_target m.states m.registers m.edges m.ends m.formed s r.1 c r.0 r.3 in
      let own = (step_cost m.states m.registers m.edges m.ends m.formed s r.1 c r.0 r.3).entries in
      let same : add_costs v k ≡ add_costs (add_costs v r.0) r.2 = ap (add_costs v) r.5 ∙ sym (add_costs-assoc v r.0 r.2) in
      let wide' = add_costs-length v r.0 m.registers wide own in
      let low' = subst (λ l. AreWithinGreatest l uppers) same low in
      let parts = below-parts (add_costs v r.0) r.2 uppers (wide' ∙ sym (run_width m.states m.registers m.edges m.ends m.formed w r.1 r.2 r.4)) low' in
      let found = layer-path w m i r.1 (add_costs v r.0) r.2 more at next wide' r.4 low' (subst (λ l. HasWord (layer (suc i) 0 l) more) same rest) in
      (c ∷ found.0, add_costs r.0 found.1, (r.0, layer i r.1 (add_costs v r.0), found.1, record { graph = m; at_work = at; paid = refl; below = parts.0; turn = inl (refl, r.3) }, found.2, refl), size-next (length found.0) (length w) more found.3)

  -- runs of the machines from the one at work on are a word that is read from its start
  layer-word : (registers : ℕ) (ms : List Graph) (rs : List (Run ℕ)) (i : ℕ) (v : List ℕ) → HaveRegisters registers ms → drop i machines ≡ ms → i + length ms ≡ length machines → AreRunsOf ms rs
      → length v ≡ registers → AreWithinGreatest (add_costs v (runs_total registers rs)) uppers → good (add_costs v (runs_total registers rs))
      → HasWord (layer i 0 v) (characters rs + length ms)
  layer-word registers [] [] i v same e n zips wide low ok =
      ([], zeros (length uppers), (refl, place-last i (length machines) n, subst good (add_costs-zeros v registers wide) ok), refl)
  layer-word registers [] (p ∷ ps) i v same e n zips wide low ok = absurd zips
  layer-word registers (m ∷ ms) [] i v same e n zips wide low ok = absurd zips
  layer-word registers (m ∷ ms) (p ∷ ps) i v same e n zips wide low ok =
      let at = get-drop machines i m ms e in
      let reg = All-head (λ (g : Graph). g.registers ≡ registers) m ms same in
      let rest = All-tail (λ (g : Graph). g.registers ≡ registers) m ms same in
      let read = run_accepted (StepsBy m.edges) (EndsAt m.ends) 0 p zips.0 in
      let own = run_width m.states m.registers m.edges m.ends m.formed p.word 0 (run_total p) read ∙ reg in
      let wide' = add_costs-length v (run_total p) registers wide own in
      let join = sym (add_costs-assoc v (run_total p) (runs_total registers ps)) in
      let low' = subst (λ l. AreWithinGreatest l uppers) join low in
      let others = runs-wide registers ms ps rest zips.1 in
      let here = below-parts (add_costs v (run_total p)) (runs_total registers ps) uppers (wide' ∙ sym others) low' in
      let later = layer-word registers ms ps (suc i) (add_costs v (run_total p)) rest at.1 (place-next i (length ms) (length machines) n) zips.1 wide' low' (subst good join ok) in
      let found = layer-path p.word m i 0 v (run_total p) (characters ps + length ms) at.0 m.started (wide ∙ sym reg) read here.0 later in
      (found.0, found.1, found.2, size-all (length found.0) (length p.word) (characters ps) (length ms) found.3)

  -- runs of all machines are a word from the first layer
  pub runs-word : (registers : ℕ) (rs : List (Run ℕ)) → HaveRegisters registers machines → AreRunsOf machines rs
      → AreWithinGreatest (runs_total registers rs) uppers → length (runs_total registers rs) ≡ registers → good (runs_total registers rs)
      → HasWord (layer 0 0 (zeros registers)) (characters rs + length machines)
  runs-word registers rs same runs low wide ok =
      let e = sym (zeros-add_costs (runs_total registers rs) registers wide) in
      layer-word registers machines rs 0 (zeros registers) same (drop-none machines) (place-first (length machines)) runs (zeros-length registers)
      (subst (λ l. AreWithinGreatest l uppers) e low) (subst good e ok)
    where
      drop-none : (ms : List Graph) → drop 0 ms ≡ ms
      drop-none [] = refl
      drop-none (m ∷ ms) = refl
