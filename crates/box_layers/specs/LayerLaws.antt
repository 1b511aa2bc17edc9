-- Laws of the machine of all machines in turn.
use Rattle.std.specs.Prelude.{◌≡◌, ℕ, pos, suc, ◌+◌, ◌*◌, ◌<◌, ◌≤◌, ◌⊎◌, List, [], ◌∷◌, length, map, slice_get, Some, Contains}
use Rattle.std.proofs.Common.{refl, sym, ap, ◌∙◌, subst, arith, inl, inr}
use Rattle.std.proofs.lemmas.List.Elements.{All-contains}
use Rattle.std.proofs.lemmas.Option.{same_Some, slice_get_within}
use Rattle.machine_core.specs.declared.graph.Graph.{Graph}
use Rattle.machine_core.specs.Costs.{zeros, IsCost}
use Rattle.machine_core.specs.CostLaws.{top_by-at, IsCost-zeros, IsCost-weaker}
use Rattle.machine_core.specs.Counts.{AreAtMost, at_most-weaker, at_most-one, at_most-made, at_most-either, at_most-pairs, at_most-below}
use Rattle.machine_core.specs.EdgeLaws.{step_target, step_character, step_cost, end_cost}
use Rattle.machine_core.specs.Graphs.{graph_top}
use Rattle.sv_list.specs.Lists.{slice_get-contains, slice_get-some, at_most-cases}
use Rattle.sv_word.specs.Words.{greatest_character}
use Rattle.sv_linear.specs.declared.row.Row.{Row}
use Rattle.search_hits.specs.declared.region.Region.{Region}
use Rattle.search_hits.specs.Hits.{HaveRegisters}
use Rattle.search_hits.specs.Regions.{AreWithin, whole_side, register_points, greatest_states}
use Rattle.box_layers.specs.declared.layer.Layer.{Layer}
use Rattle.box_layers.specs.Layers.{layer, AreWithinGreatest, uppers_of, AreGoodTotals, Turns, LayerStep, LayerEnd, IsLayerOf, layers_top, layers_size}

zeros-below : (sides : List (ℕ × ℕ)) → AreWithinGreatest (zeros (length sides)) (map (λ (s : ℕ × ℕ). s.1) sides)
zeros-below [] = tt
zeros-below (s ∷ ss) = (omega arith, zeros-below ss)

pub length-uppers : (sides : List (ℕ × ℕ)) → length (map (λ (s : ℕ × ℕ). s.1) sides) ≡ length sides
length-uppers [] = refl
length-uppers (s ∷ ss) = ap suc (length-uppers ss)

-- as many totals as registers
totals-length : (sides : List (ℕ × ℕ)) (totals : List ℕ) → AreWithin (map whole_side sides) (map pos totals) → length totals ≡ length sides
totals-length [] [] h = refl
totals-length [] (n ∷ ns) h = absurd h
totals-length (s ∷ ss) [] h = absurd h
totals-length (s ∷ ss) (n ∷ ns) h = let e = totals-length ss ns h.1 in omega arith

pub good-length : (rows : List Row) (region : Region) (totals : List ℕ) → AreGoodTotals rows region totals → length totals ≡ length region.registers
good-length rows region totals good = totals-length region.registers totals good.0

pub first-layer : (machines : List Graph) (region : Region) (good : List ℕ → Type 0) → IsLayerOf machines (uppers_of region) good (layer 0 0 (zeros (length region.registers)))
first-layer machines region good = record {
  inside = omega arith;
  state = λ m e. m.started;
  last = λ e. refl;
  below = zeros-below region.registers;
}

-- the machine at a place, and how places follow on each other
pub same-graph : (machines : List Graph) (i : ℕ) (g m : Graph) → slice_get machines i ≡ Some g → slice_get machines i ≡ Some m → g ≡ m
same-graph machines i g m e f = same_Some g m (sym e ∙ f)

stays-within : (i j n : ℕ) → j ≡ i → i < n → j ≤ n
stays-within i j n e lt = omega arith

stays-before : {C : Type 0} (i j n : ℕ) → j ≡ i → i < n → j ≡ n → C
stays-before i j n e lt f = absurd (omega arith)

next-within : (i j n : ℕ) → j ≡ suc i → i < n → j ≤ n
next-within i j n e lt = omega arith

zero-within : (c n : ℕ) → c ≡ 0 → c ≤ n
zero-within c n e = omega arith

less-than : (i j n : ℕ) → i < j → j ≤ n → i < n
less-than i j n a b = omega arith

module _ (machines : List Graph) (uppers : List ℕ) (good : List ℕ → Type 0) where
  pub next-layer : (s t : Layer) (c : ℕ) (cost : List ℕ) → IsLayerOf machines uppers good s → LayerStep machines uppers good s c cost t → IsLayerOf machines uppers good t
  next-layer s t c cost h step = by_turn step.turn
    where
      inside : s.machine < length machines
      inside = slice_get_within machines s.machine step.graph step.at_work

      by_turn : Turns machines uppers good step.graph s c cost t → IsLayerOf machines uppers good t
      by_turn (inl same) = record {
        inside = stays-within s.machine t.machine (length machines) same.0 inside;
        state = λ m g.
            subst (λ (x : Graph). t.state < x.states) (same-graph machines s.machine step.graph m step.at_work (subst (λ n. slice_get machines n ≡ Some m) same.0 g))
            (step_target step.graph.states step.graph.registers step.graph.edges step.graph.ends step.graph.formed s.state t.state c cost same.1);
        last = stays-before s.machine t.machine (length machines) same.0 inside;
        below = step.below;
      }
      by_turn (inr next) = record {
        inside = next-within s.machine t.machine (length machines) next.0 inside;
        state = λ m g. subst (λ n. n < m.states) (sym next.1) m.started;
        last = λ over. next.1;
        below = step.below;
      }

  pub layer-character : (s t : Layer) (c : ℕ) (cost : List ℕ) → IsLayerOf machines uppers good s → LayerStep machines uppers good s c cost t → c ≤ greatest_character
  layer-character s t c cost h step = by_turn step.turn
    where
      by_turn : Turns machines uppers good step.graph s c cost t → c ≤ greatest_character
      by_turn (inl same) = step_character step.graph.states step.graph.registers step.graph.edges step.graph.ends step.graph.formed s.state t.state c cost same.1
      by_turn (inr next) = zero-within c greatest_character next.2

  pub layer-step_cost : (registers : ℕ) → HaveRegisters registers machines → (s t : Layer) (c : ℕ) (cost : List ℕ) → LayerStep machines uppers good s c cost t → IsCost registers (layers_top machines) cost
  layer-step_cost registers same s t c cost step = by_turn step.turn
    where
      m : Graph
      m = step.graph

      known : Contains machines m
      known = slice_get-contains machines s.machine m step.at_work

      wide : IsCost m.registers (graph_top m) cost → IsCost registers (layers_top machines) cost
      wide k = IsCost-weaker registers (graph_top m) (layers_top machines) cost (top_by-at graph_top machines m known)
          (subst (λ n. IsCost n (graph_top m) cost) (All-contains (λ (g : Graph). g.registers ≡ registers) machines m same known) k)

      by_turn : Turns machines uppers good m s c cost t → IsCost registers (layers_top machines) cost
      by_turn (inl inside) = wide (step_cost m.states m.registers m.edges m.ends m.formed s.state t.state c cost inside.1)
      by_turn (inr next) = wide (end_cost m.states m.registers m.edges m.ends m.formed s.state cost next.3)

  pub layer-end_cost : (registers : ℕ) → length uppers ≡ registers → (s : Layer) (cost : List ℕ) → LayerEnd machines uppers good s cost → IsCost registers (layers_top machines) cost
  layer-end_cost registers e s cost end = rw (end.0, e) (IsCost-zeros registers (layers_top machines))

-- how many layers there are
few-spent : (sides : List (ℕ × ℕ)) → AreAtMost (λ v. AreWithinGreatest v (map (λ (s : ℕ × ℕ). s.1) sides)) (register_points sides)
few-spent [] = at_most-weaker (λ v. [] ≡ v) (λ v. AreWithinGreatest v []) 1 1 none (omega arith) (at_most-one [])
  where
    none : (v : List ℕ) → AreWithinGreatest v [] → [] ≡ v
    none [] h = refl
    none (x ∷ v) h = absurd h
few-spent (s ∷ ss) =
    at_most-made (λ (q : ℕ × List ℕ). q.0 ∷ q.1) (λ (q : ℕ × List ℕ). (q.0 < s.1 + 1) × AreWithinGreatest q.1 (map (λ (s : ℕ × ℕ). s.1) ss)) (λ v. AreWithinGreatest v (s.1 ∷ map (λ (s : ℕ × ℕ). s.1) ss))
    ((s.1 + 1) * register_points ss) parts
    (at_most-pairs (λ n. n < s.1 + 1) (λ v. AreWithinGreatest v (map (λ (s : ℕ × ℕ). s.1) ss)) (s.1 + 1) (register_points ss) (at_most-below (s.1 + 1)) (few-spent ss))
  where
    parts : (v : List ℕ) → AreWithinGreatest v (s.1 ∷ map (λ (s : ℕ × ℕ). s.1) ss) → (q : ℕ × List ℕ) × ((q.0 < s.1 + 1) × AreWithinGreatest q.1 (map (λ (s : ℕ × ℕ). s.1) ss)) × (q.0 ∷ q.1 ≡ v)
    parts [] h = absurd h
    parts (x ∷ v) h = let le = h.0 in ((x, v), (omega arith, h.1), refl)

module _ (machines : List Graph) where
  -- a machine at work and one of its states, or behind the last machine
  abbrev IsTurn : ℕ × ℕ → Type 0
  IsTurn p = ((p.0 < greatest_states machines) × (p.1 < length machines)) ⊎ ((0, length machines) ≡ p)

  few-turns : AreAtMost IsTurn (greatest_states machines * length machines + 1)
  few-turns = at_most-either (λ (p : ℕ × ℕ). (p.0 < greatest_states machines) × (p.1 < length machines)) (λ (p : ℕ × ℕ). (0, length machines) ≡ p)
      (greatest_states machines * length machines) 1
      (at_most-pairs (λ s. s < greatest_states machines) (λ i. i < length machines) (greatest_states machines) (length machines) (at_most-below (greatest_states machines)) (at_most-below (length machines)))
      (at_most-one (0, length machines))

  turn-of : (region : Region) (good : List ℕ → Type 0) (t : Layer) → IsLayerOf machines (uppers_of region) good t → IsTurn (t.state, t.machine)
  turn-of region good t h = elim (at_most-cases t.machine (length machines) h.inside) [
    | inl lt ↦
        let m = slice_get-some machines t.machine lt in
        let own = h.state m.0 m.1 in
        let most = top_by-at (λ (g : Graph). g.states) machines m.0 (slice_get-contains machines t.machine m.0 m.1) in
        inl (less-than t.state m.0.states (greatest_states machines) own most, lt)
    | inr e ↦ inr (ap (λ n. (n, length machines)) (sym (h.last e)) ∙ ap (λ n. (t.state, n)) (sym e))
  ]

  pub few-layers : (region : Region) (good : List ℕ → Type 0) → AreAtMost (IsLayerOf machines (uppers_of region) good) (layers_size machines region)
  few-layers region good =
      at_most-made (λ (q : (ℕ × ℕ) × List ℕ). layer q.0.1 q.0.0 q.1) (λ (q : (ℕ × ℕ) × List ℕ). IsTurn q.0 × AreWithinGreatest q.1 (uppers_of region)) (IsLayerOf machines (uppers_of region) good)
      (layers_size machines region) (λ t h. (((t.state, t.machine), t.spent), (turn-of region good t h, h.below), refl))
      (at_most-pairs IsTurn (λ v. AreWithinGreatest v (uppers_of region)) (greatest_states machines * length machines + 1) (register_points region.registers) few-turns (few-spent region.registers))
