-- Hits and the words of all machines in turn.
use Rattle.std.proofs.Common.{◌≡◌, ℕ, ℤ, ◌+◌, ◌≤◌, List, length, ap, arith}
use Rattle.machine_core.specs.declared.graph.Graph.{Graph}
use Rattle.machine_core.specs.declared.run.Run.{Run}
use Rattle.machine_core.specs.Costs.{zeros}
use Rattle.machine_core.specs.Edges.{EndsAt, StepsBy}
use Rattle.machine_core.specs.Language.{RunsFrom, SameRuns}
use Rattle.machine_core.specs.Graphs.{Accepts}
use Rattle.trim_search.specs.Shortest.{IsShortestRun}
use Rattle.sv_linear.specs.declared.row.Row.{Row}
use Rattle.search_hits.specs.declared.region.Region.{Region}
use Rattle.search_hits.specs.Hits.{HaveRegisters, runs_total, characters}
use Rattle.search_hits.specs.Regions.{IsHitWithin, IsShortHit}
use Rattle.box_layers.specs.declared.layer.Layer.{Layer}
use Rattle.box_layers.specs.Layers.{layer, uppers_of, AreGoodTotals, LayerStep, LayerEnd}
use Rattle.box_layers.specs.LayerLaws.{good-length}
use Rattle.box_search.proofs.ShortLemmas.{hit-short, totals-below}
use Rattle.box_search.proofs.LayerLemmas.{runs-word}

module _ (machines : List Graph) (integers : ℕ) (rows : List Row) (region : Region) where
  abbrev IsHitOf : List (Run ℕ) → List ℤ → Type 0
  IsHitOf = IsHitWithin machines integers rows region

  pub hit-good : (runs : List (Run ℕ)) (numbers : List ℤ) → IsHitOf runs numbers → AreGoodTotals rows region (runs_total (length region.registers) runs)
  hit-good runs numbers h = (h.within.registers, numbers, record { within = h.within.numbers; meets = h.hit.meets.each })

  module _ (same : HaveRegisters (length region.registers) machines) where
    abbrev Ends : Layer → List ℕ → Type 0
    Ends = LayerEnd machines (uppers_of region) (AreGoodTotals rows region)

    abbrev Steps : Layer → ℕ → List ℕ → Layer → Type 0
    Steps = LayerStep machines (uppers_of region) (AreGoodTotals rows region)

    abbrev first : Layer
    first = layer 0 0 (zeros (length region.registers))

    pub hit-word : (runs : List (Run ℕ)) (numbers : List ℤ) → IsHitOf runs numbers → (word cost : List ℕ) × RunsFrom Ends Steps first word cost × (length word ≡ characters runs + length machines)
    hit-word runs numbers h =
        let good = hit-good runs numbers h in
        runs-word machines (uppers_of region) (AreGoodTotals rows region) (length region.registers) runs same h.hit.each
        (totals-below region.registers (runs_total (length region.registers) runs) h.within.registers) (good-length rows region (runs_total (length region.registers) runs) good) good

    module _ (built : Graph) (runs_alike : SameRuns Ends Steps first (EndsAt built.ends) (StepsBy built.edges) 0) where
      pub no-word : ((word cost : List ℕ) → Accepts built word cost → ⊥) → (runs : List (Run ℕ)) (numbers : List ℤ) → IsHitOf runs numbers → ⊥
      no-word none runs numbers h = let w = hit-word runs numbers h in none w.0 w.1 ((runs_alike w.0 w.1).0 w.2)

      pub short-hit : (numbered : Run ℕ) (run : Run Layer) (runs : List (Run ℕ)) (numbers : List ℤ) → IsShortestRun built numbered → run.word ≡ numbered.word
          → characters runs + length machines ≡ length run.word → IsHitOf runs numbers → IsShortHit machines integers rows region runs numbers
      short-hit numbered run runs numbers shortest lifted size h =
          let s = hit-short machines region same integers rows runs numbers h in
          let w = hit-word s.0 numbers s.1.hit in
          let least = shortest.least w.0 w.1 ((runs_alike w.0 w.1).0 w.2) in
          let bound = s.1.short in
          let long = w.3 in
          let e = ap length lifted in
          let less : characters runs ≤ characters s.0 = omega arith in
          record { hit = h; short = omega arith }
