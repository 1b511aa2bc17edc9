-- The places of names in a list.
use Rattle.std.specs.Prelude.{◌≡◌, ℕ, suc, List, [], ◌∷◌, Option, Some, None, cond, nat_eq}
use Rattle.std.specs.Option.{option_map}
use Rattle.std.specs.BTreeMap.{BTreeMap, get}
use Rattle.std.specs.Cmp.Lexicographic.{pointwise, slice_cmp}
use Rattle.std.specs.List.{IsDistinct}
use Rattle.std.specs.Ordering.{nat_cmp}

-- where the name first stands, counted from 0
abbrev pub place_of : List (List ℕ) → List ℕ → Option ℕ
place_of [] name = None
place_of (n ∷ names) name = cond (pointwise nat_eq name n) (Some 0) (option_map suc (place_of names name))

-- no name stands twice, and the map has the place of each
pub record IsIndex (names : List (List ℕ)) (places : BTreeMap (List ℕ) ℕ) : Type 0 where
  pub distinct : IsDistinct (pointwise nat_eq) names
  pub placed : (name : List ℕ) → get (slice_cmp nat_cmp) places name ≡ place_of names name
