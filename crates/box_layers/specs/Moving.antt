-- What leaves a layer, made from what leaves the state of the machine at work.
use Rattle.std.specs.Prelude.{◌≡◌, ◌↔◌, ℕ, suc, Bool, true, false, nat_lt, nat_le, ◌&&◌, All, Any, List, [], ◌∷◌, if◌then◌else◌}
use Rattle.sv_word.specs.Ranges.{in_ranges, IsInhabited}
use Rattle.machine_core.specs.Costs.{add_costs}
use Rattle.machine_core.specs.Edges.{EndsAt, StepsBy}
use Rattle.machine_core.specs.Moves.{Moves}
use Rattle.machine_core.specs.declared.graph.Graph.{Graph}
use Rattle.machine_core.specs.declared.machine.Move.{Move}
use Rattle.box_layers.specs.declared.layer.Layer.{Layer}
use Rattle.box_layers.specs.Layers.{layer}

abbrev pub is_below : List ℕ → List ℕ → Bool
is_below [] [] = true
is_below [] (u ∷ us) = false
is_below (v ∷ vs) [] = false
is_below (v ∷ vs) (u ∷ us) = if nat_lt u v then false else is_below vs us

abbrev pub step_move : Layer → Move ℕ → Move Layer
step_move at m = record { on = m.on; cost = m.cost; to = layer at.machine m.to (add_costs at.spent m.cost) }

abbrev pub end_move : List (ℕ × ℕ) → Layer → List ℕ → Move Layer
end_move on at k = record { on = on; cost = k; to = layer (suc at.machine) 0 (add_costs at.spent k) }

abbrev pub step_moves : List ℕ → Layer → List (Move ℕ) → List (Move Layer)
step_moves uppers at [] = []
step_moves uppers at (m ∷ ms) = if is_below (add_costs at.spent m.cost) uppers then step_move at m ∷ step_moves uppers at ms else step_moves uppers at ms

abbrev pub end_moves : List ℕ → List (ℕ × ℕ) → Layer → List (List ℕ) → List (Move Layer)
end_moves uppers on at [] = []
end_moves uppers on at (k ∷ ks) = if is_below (add_costs at.spent k) uppers then end_move on at k ∷ end_moves uppers on at ks else end_moves uppers on at ks

module _ (m : Graph) (uppers : List ℕ) (at : Layer) (all : List (Move Layer)) where
  -- made from what leaves the machine's state
  pub record AreLayerSteps : Type 0 where
    pub inner : List (Move ℕ)
    pub exact : (c : ℕ) (k : List ℕ) (t : ℕ) → StepsBy m.edges at.state c k t ↔ Any (Moves c k t) inner
    pub inhabited : All (λ e. IsInhabited e.on) inner
    pub made : all ≡ step_moves uppers at inner

  -- made from the costs at which the machine may end there, on the character 0
  pub record AreLayerEnds : Type 0 where
    pub on : List (ℕ × ℕ)
    pub costs : List (List ℕ)
    pub single : (c : ℕ) → in_ranges on c ≡ (nat_le 0 c && nat_le c 0)
    pub inhabited : IsInhabited on
    pub exact : (k : List ℕ) → EndsAt m.ends at.state k ↔ Any (λ e. e ≡ k) costs
    pub made : all ≡ end_moves uppers on at costs
