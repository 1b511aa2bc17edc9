-- A run of all machines in turn that grows by a step at its end, and short hits.
use Rattle.std.proofs.Common.{◌≡◌, ℕ, ℤ, suc, ◌+◌, ◌*◌, ◌≤◌, List, [], ◌∷◌, ◌++◌, length, slice_get, Bool, true, false, Some, IfSome, refl, ap, sym, ◌∙◌, subst, arith}
use Rattle.std.specs.Bool.{then_some}
use Rattle.std.proofs.Math.Nat.{mul_comm}
use Rattle.sv_linear.specs.declared.row.Row.{Row}
use Rattle.machine_core.specs.declared.graph.Graph.{Graph}
use Rattle.machine_core.specs.declared.run.Run.{Run}
use Rattle.machine_core.specs.Costs.{zeros}
use Rattle.machine_core.specs.Runs.{IsPath}
use Rattle.machine_core.specs.RunLaws.{path_push, path_lengths}
use Rattle.search_hits.specs.declared.region.Region.{Region}
use Rattle.search_hits.specs.Hits.{characters}
use Rattle.search_hits.specs.Regions.{IsHitWithin, IsShortHit, greatest_states}
use Rattle.box_layers.specs.declared.layer.Layer.{Layer}
use Rattle.box_layers.specs.Cuts.{IsRunOfAll}
use Rattle.box_search.specs.Ways.{IsLayerWay}
use Rattle.box_layers.specs.LayerLaws.{first-layer, next-layer}
use Rattle.box_layers.specs.Layers.{layer, uppers_of, AreGoodTotals, IsLayerOf, LayerStep, LayerEnd}
use Rattle.box_layers.specs.PathLaws.{path-last}
use Rattle.box_search.proofs.ShortLemmas.{few-characters}

module _ (machines : List Graph) (rows : List Row) (region : Region) where
  abbrev Steps : Layer → ℕ → List ℕ → Layer → Type 0
  Steps = LayerStep machines (uppers_of region) (AreGoodTotals rows region)

  abbrev first : Layer
  first = layer 0 0 (zeros (length region.registers))

  pub way-begun : (run : Run Layer) (start : Layer) → start ≡ first → run.states ≡ [] ++ start ∷ [] → run.word ≡ [] → run.costs ≡ [] → IsLayerWay machines rows region run
  way-begun run start same begins none free = record {
    after = [];
    stop = start;
    states = begins ∙ ap (λ (l : Layer). l ∷ []) same;
    path = subst (λ ks. IsPath Steps first [] run.word ks start) (sym free) (subst (λ w. IsPath Steps first [] w [] start) (sym none) (sym same));
    is = subst (IsLayerOf machines (uppers_of region) (AreGoodTotals rows region)) (sym same) (first-layer machines region (AreGoodTotals rows region));
  }

  module _ (run : Run Layer) (way : IsLayerWay machines rows region run) where
    sizes : (length way.after ≡ length run.word) × (length run.costs ≡ length run.word)
    sizes = path_lengths Steps first way.after run.word run.costs way.stop way.path

    -- one state more than characters
    pub way-size : length run.states ≡ suc (length run.word)
    way-size = ap length way.states ∙ ap suc sizes.0

    -- the state where the run stops
    pub way-stop : (at : Layer) → slice_get run.states (length run.word) ≡ Some at → way.stop ≡ at
    way-stop at e = path-last Steps first way.after run.word run.costs way.stop at way.path (subst (λ l. slice_get l (length run.word) ≡ Some at) way.states e)

    pub way-layer : (at : Layer) → slice_get run.states (length run.word) ≡ Some at → IsLayerOf machines (uppers_of region) (AreGoodTotals rows region) at
    way-layer at e = subst (IsLayerOf machines (uppers_of region) (AreGoodTotals rows region)) (way-stop at e) way.is

    pub way-grown : (more : Run Layer) (at to : Layer) (c : ℕ) (k : List ℕ) → slice_get run.states (length run.word) ≡ Some at → Steps at c k to
        → more.states ≡ run.states ++ to ∷ [] → more.word ≡ run.word ++ c ∷ [] → more.costs ≡ run.costs ++ k ∷ [] → IsLayerWay machines rows region more
    way-grown more at to c k e step states word costs =
        let step' = subst (λ (l : Layer). Steps l c k to) (sym (way-stop at e)) step in
        record {
          after = way.after ++ to ∷ [];
          stop = to;
          states = states ∙ ap (λ (l : List Layer). l ++ to ∷ []) way.states;
          path = subst (λ ks. IsPath Steps first (way.after ++ to ∷ []) more.word ks to) (sym costs)
              (subst (λ w. IsPath Steps first (way.after ++ to ∷ []) w (run.costs ++ k ∷ []) to) (sym word)
              (path_push Steps first way.after run.word run.costs way.stop c k to way.path step'));
          is = next-layer machines (uppers_of region) (AreGoodTotals rows region) way.stop to c k way.is step';
        }

    pub way-ended : (whole : Run Layer) (at : Layer) → slice_get run.states (length run.word) ≡ Some at → LayerEnd machines (uppers_of region) (AreGoodTotals rows region) at whole.last
        → whole.states ≡ run.states → whole.word ≡ run.word → whole.costs ≡ run.costs → IsRunOfAll machines rows region whole
    way-ended whole at e end states word costs = record {
      after = way.after;
      stop = at;
      states = states ∙ way.states;
      path = subst (λ ks. IsPath Steps first way.after whole.word ks at) (sym costs) (subst (λ w. IsPath Steps first way.after w run.costs at) (sym word)
          (subst (IsPath Steps first way.after run.word run.costs) (way-stop at e) way.path));
      last = end;
    }

-- what is told where it holds
pub told-some : {A : Type 0} (P : A → Type 0) (b : Bool) (x : A) → (b ≡ true → P x) → IfSome (then_some b x) P
told-some P true x h = h refl
told-some P false x h = tt

-- a hit with no more characters than the steps that were counted
pub counted-hit : (machines : List Graph) (integers : ℕ) (rows : List Row) (region : Region) (side : ℕ × ℕ) (runs : List (Run ℕ)) (numbers : List ℤ) (steps : ℕ)
    → region.registers ≡ side ∷ [] → characters runs + length machines ≡ steps → steps ≤ greatest_states machines * (side.1 + 1) * length machines
    → IsHitWithin machines integers rows region runs numbers → IsShortHit machines integers rows region runs numbers
counted-hit machines integers rows region side runs numbers steps one size few hit = record {
  hit = hit;
  short = few-characters machines region (characters runs) (rw one (
      let whole : greatest_states machines * ((side.1 + 1) * 1) ≡ greatest_states machines * (side.1 + 1) = ap (λ n. greatest_states machines * n) (let e : (side.1 + 1) * 1 ≡ side.1 + 1 = omega arith in e) in
      let turned = mul_comm (greatest_states machines * (side.1 + 1)) (length machines) in
      let both : length machines * (greatest_states machines * ((side.1 + 1) * 1)) ≡ length machines * (greatest_states machines * (side.1 + 1)) = ap (λ n. length machines * n) whole in
      omega arith));
}
