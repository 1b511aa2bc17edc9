-- Marks on all pairs that are reached, and that there is no hit where no marked total behind the last machine is good.
use Rattle.std.proofs.Common.{◌≡◌, ℕ, ℤ, pos, suc, ◌+◌, ◌*◌, ◌<◌, ◌≤◌, inl, inr, List, [], ◌∷◌, length, map, refl, ap, sym, ◌∙◌, subst, arith}
use Rattle.std.proofs.lemmas.Int.{ints}
use Rattle.std.proofs.lemmas.List.Elements.{All-contains}
use Rattle.machine_core.specs.declared.edge.Edge.{Edge}
use Rattle.machine_core.specs.declared.end.End.{End}
use Rattle.machine_core.specs.declared.graph.Graph.{Graph}
use Rattle.machine_core.specs.declared.run.Run.{Run}
use Rattle.machine_core.specs.Costs.{add_costs, zeros}
use Rattle.machine_core.specs.Language.{RunsFrom}
use Rattle.sv_list.specs.Lists.{contained}
use Rattle.machine_core.specs.Moves.{Moves}
use Rattle.machine_core.specs.Edges.{move_of}
use Rattle.sv_linear.specs.declared.row.Row.{Row}
use Rattle.search_hits.specs.declared.region.Region.{Region}
use Rattle.search_hits.specs.Hits.{HaveRegisters}
use Rattle.search_hits.specs.Regions.{AreWithin, whole_side, IsHitWithin}
use Rattle.box_layers.specs.declared.layer.Layer.{Layer}
use Rattle.box_layers.specs.LayerLaws.{first-layer, next-layer, layer-step_cost}
use Rattle.box_layers.specs.Layers.{layer, uppers_of, AreWithinGreatest, AreGoodTotals, IsLayerOf, LayerStep, LayerEnd, Turns}
use Rattle.total_marks.specs.Marks.{HasBit, IsTotalMarked, StepPasses, MarksAreClosed, charge, row_of}
use Rattle.box_search.proofs.SearchLemmas.{hit-word}

-- a list of one
one-cost : (k : List ℕ) → length k ≡ 1 → k ≡ charge k ∷ []
one-cost [] e = absurd (omega arith)
one-cost (x ∷ []) e = refl
one-cost (x ∷ y ∷ k) e = absurd (omega arith)

module _ (machines : List Graph) (uppers : List ℕ) (good : List ℕ → Type 0) (words : List ℕ) (width states most : ℕ)
    (same : HaveRegisters 1 machines) (most-is : uppers ≡ most ∷ []) (closed : MarksAreClosed words width machines states most) where
  -- what is spent is marked at the layer's row
  abbrev AtMark : Layer → Type 0
  AtMark p = (total : ℕ) × (p.spent ≡ total ∷ []) × IsTotalMarked words width (p.machine * states + p.state) total

  abbrev Steps : Layer → ℕ → List ℕ → Layer → Type 0
  Steps = LayerStep machines uppers good

  abbrev Ends : Layer → List ℕ → Type 0
  Ends = LayerEnd machines uppers good

  low-total : (total : ℕ) (spent : List ℕ) → spent ≡ total ∷ [] → AreWithinGreatest spent uppers → total < 64 * width
  low-total total spent e below =
      let b : AreWithinGreatest (total ∷ []) (most ∷ []) = subst (λ us. AreWithinGreatest (total ∷ []) us) most-is (subst (λ l. AreWithinGreatest l uppers) e below) in
      let le = b.0 in
      let room = closed.room in
      omega arith

  marked-step : (p q : Layer) (c : ℕ) (k : List ℕ) → Steps p c k q → AtMark p → AtMark q
  marked-step p q c k step at = (total, spent, by_turn step.turn)
    where
      paid : k ≡ charge k ∷ []
      paid = one-cost k (layer-step_cost machines uppers good 1 same p q c k step).entries

      total : ℕ
      total = at.0 + charge k

      spent : q.spent ≡ total ∷ []
      spent = step.paid ∙ ap (λ l. add_costs l k) at.1 ∙ ap (add_costs (at.0 ∷ [])) paid

      low : total < 64 * width
      low = low-total total q.spent spent step.below

      by_turn : Turns machines uppers good step.graph p c k q → IsTotalMarked words width (q.machine * states + q.state) total
      by_turn (inl inside) =
          let d = contained (λ (e : Edge). (e.from ≡ p.state) × Moves c k q.state (move_of e)) step.graph.edges inside.1 in
          let pass = All-contains (λ (e : Edge). StepPasses words width (p.machine * states + e.from) (p.machine * states + e.to) (charge e.cost)) step.graph.edges d.0 (closed.edges p.machine step.graph step.at_work) d.1 in
          let cost : charge d.0.cost ≡ charge k = ap charge d.2.1.1 in
          let from : p.machine * states + p.state ≡ p.machine * states + d.0.from = ap (λ n. p.machine * states + n) (sym d.2.0) in
          let to : p.machine * states + d.0.to ≡ q.machine * states + q.state = ap (λ n. p.machine * states + n) d.2.1.2 ∙ ap (λ n. n * states + q.state) (sym inside.0) in
          let sum : at.0 + charge d.0.cost ≡ total = ap (λ n. at.0 + n) cost in
          let marked = pass at.0 (subst (λ n. IsTotalMarked words width n at.0) from at.2) (subst (λ n. n < 64 * width) (sym sum) low) in
          subst (λ n. IsTotalMarked words width (q.machine * states + q.state) n) sum (subst (λ n. IsTotalMarked words width n (at.0 + charge d.0.cost)) to marked)
      by_turn (inr next) =
          let e = contained (λ (x : End). (x.at ≡ p.state) × (x.cost ≡ k)) step.graph.ends next.3 in
          let pass = All-contains (λ (x : End). StepPasses words width (p.machine * states + x.at) (suc p.machine * states) (charge x.cost)) step.graph.ends e.0 (closed.ends p.machine step.graph step.at_work) e.1 in
          let cost : charge e.0.cost ≡ charge k = ap charge e.2.1 in
          let from : p.machine * states + p.state ≡ p.machine * states + e.0.at = ap (λ n. p.machine * states + n) (sym e.2.0) in
          let to : suc p.machine * states ≡ q.machine * states + q.state =
          (let plain : suc p.machine * states ≡ suc p.machine * states + 0 = omega arith in plain) ∙ ap (λ n. suc p.machine * states + n) (sym next.1) ∙ ap (λ n. n * states + q.state) (sym next.0) in
          let sum : at.0 + charge e.0.cost ≡ total = ap (λ n. at.0 + n) cost in
          let marked = pass at.0 (subst (λ n. IsTotalMarked words width n at.0) from at.2) (subst (λ n. n < 64 * width) (sym sum) low) in
          subst (λ n. IsTotalMarked words width (q.machine * states + q.state) n) sum (subst (λ n. IsTotalMarked words width n (at.0 + charge e.0.cost)) to marked)

  -- a word that is read from a marked layer ends at a marked total behind the last machine
  abbrev IsStop : Layer → Type 0
  IsStop q = AtMark q × (q.machine ≡ length machines) × (q.state ≡ 0) × good q.spent

  marked-word : (word : List ℕ) (p : Layer) (cost : List ℕ) → RunsFrom Ends Steps p word cost → IsLayerOf machines uppers good p → AtMark p → (q : Layer) × IsStop q
  marked-word [] p cost end is at = (p, (at, end.1, is.last end.1, end.2))
  marked-word (c ∷ word) p cost run is at =
      marked-word word run.1 run.2 run.4 (next-layer machines uppers good p run.1 c run.0 is run.3) (marked-step p run.1 c run.0 run.3 at)

  pub marked-total : (word cost : List ℕ) → RunsFrom Ends Steps (layer 0 0 (zeros 1)) word cost → IsLayerOf machines uppers good (layer 0 0 (zeros 1))
      → (total : ℕ) × HasBit (row_of words width (length machines * states)) total × good (total ∷ [])
  marked-total word cost run is =
      let stop = marked-word word (layer 0 0 (zeros 1)) cost run is (0, refl, subst (λ n. IsTotalMarked words width n 0) (let e : 0 ≡ 0 * states + 0 = omega arith in e) closed.begun) in
      let q = stop.0 in
      let row : q.machine * states + q.state ≡ length machines * states =
      ap (λ n. q.machine * states + n) stop.1.2 ∙ (let plain : q.machine * states + 0 ≡ q.machine * states = omega arith in plain) ∙ ap (λ n. n * states) stop.1.1 in
      (stop.1.0.0, subst (λ n. IsTotalMarked words width n stop.1.0.0) row stop.1.0.2, subst good stop.1.0.1 stop.1.3)

pub no-marked-hit : (machines : List Graph) (integers : ℕ) (rows : List Row) (region : Region) (words : List ℕ) (width states : ℕ) (side : ℕ × ℕ)
    → HaveRegisters (length region.registers) machines → region.registers ≡ side ∷ [] → MarksAreClosed words width machines states side.1
    → ((total : ℕ) → side.0 ≤ total → total ≤ side.1 → HasBit (row_of words width (length machines * states)) total → AreGoodTotals rows region (total ∷ []) → ⊥)
    → (runs : List (Run ℕ)) (numbers : List ℤ) → IsHitWithin machines integers rows region runs numbers → ⊥
no-marked-hit machines integers rows region words width states side same one closed none runs numbers hit =
    let w = hit-word machines integers rows region same runs numbers hit in
    let wide : length region.registers ≡ 1 = ap length one in
    let uppers : uppers_of region ≡ side.1 ∷ [] = ap (map (λ (s : ℕ × ℕ). s.1)) one in
    let start : layer 0 0 (zeros (length region.registers)) ≡ layer 0 0 (zeros 1) = ap (λ n. layer 0 0 (zeros n)) wide in
    let run = subst (λ (p : Layer). RunsFrom (LayerEnd machines (uppers_of region) (AreGoodTotals rows region)) (LayerStep machines (uppers_of region) (AreGoodTotals rows region)) p w.0 w.1) start w.2 in
    let is = subst (IsLayerOf machines (uppers_of region) (AreGoodTotals rows region)) start (first-layer machines region (AreGoodTotals rows region)) in
    let found = marked-total machines (uppers_of region) (AreGoodTotals rows region) words width states side.1 (subst (λ n. HaveRegisters n machines) wide same) uppers closed w.0 w.1 run is in
    let within = subst (λ (sides : List (ℕ × ℕ)). AreWithin (map whole_side sides) (map pos (found.0 ∷ []))) one found.2.0 in
    let low = within.0.0 in
    let high = within.0.1 in
    none found.0 (omega (arith, ints)) (omega (arith, ints)) found.1 found.2
