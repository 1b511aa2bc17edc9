-- Layers with numbers, found by their places in a table: a block for each machine, in it a row for each state, and in that a place for each totals.
use Rattle.std.specs.Prelude.{◌≡◌, ℕ, ◌+◌, ◌*◌, ◌<◌, List, [], ◌∷◌, Option, Some, slice_get}
use Rattle.std.specs.BTreeMap.{BTreeMap, get}
use Rattle.std.specs.Ordering.{nat_cmp, ordering_then}
use Rattle.std.specs.Cmp.Lexicographic.{slice_cmp}
use Rattle.std.specs.declared.cmp.Ordering.{Ordering}
use Rattle.trim_search.specs.Explored.{HasNoRepeat}
use Rattle.box_layers.specs.declared.layer.Layer.{Layer}
use Rattle.box_layers.specs.Layers.{AreWithinGreatest}

-- the number whose digits these are, the first one the least; the base of a digit is one more than its greatest
abbrev pub number_of : List ℕ → List ℕ → ℕ
number_of [] us = 0
number_of (v ∷ vs) [] = 0
number_of (v ∷ vs) (u ∷ us) = v + (u + 1) * number_of vs us

-- how many such numbers there are
abbrev pub numbers_below : List ℕ → ℕ
numbers_below [] = 1
numbers_below (u ∷ us) = (u + 1) * numbers_below us

abbrev pub layer_cmp : Layer → Layer → Ordering
layer_cmp a b = ordering_then (nat_cmp a.machine b.machine) (ordering_then (nat_cmp a.state b.state) (slice_cmp nat_cmp a.spent b.spent))

-- where the layer stands, if there are so many states for each machine
abbrev pub place_of : List ℕ → ℕ → Layer → ℕ
place_of uppers states s = number_of s.spent uppers + numbers_below uppers * (s.state + states * s.machine)

module _ (uppers : List ℕ) (states machines : ℕ) where
  -- the table has a place for the layer
  pub record HasPlace (s : Layer) : Type 0 where
    pub totals : AreWithinGreatest s.spent uppers
    pub state : s.state < states
    pub machine : s.machine < machines

  -- the table has the number of each layer that has a place in it, and the map those of the others
  pub record IsLayerIndex (names : List Layer) (table : List (Option ℕ)) (others : BTreeMap Layer ℕ) : Type 0 where
    pub distinct : HasNoRepeat names
    pub found : (p n : ℕ) → slice_get table p ≡ Some (Some n) → (s : Layer) × (slice_get names n ≡ Some s) × HasPlace s × (place_of uppers states s ≡ p)
    pub known : (s : Layer) (n : ℕ) → slice_get names n ≡ Some s → HasPlace s → slice_get table (place_of uppers states s) ≡ Some (Some n)
    pub others_found : (s : Layer) (n : ℕ) → get layer_cmp others s ≡ Some n → slice_get names n ≡ Some s
    pub others_known : (s : Layer) (n : ℕ) → slice_get names n ≡ Some s → (HasPlace s → ⊥) → get layer_cmp others s ≡ Some n
