-- Values that are set by names none of which stands twice.
use Rattle.std.proofs.Common.{◌≡◌, refl, ◌∙◌, false, Bool, ℕ, List, [], ◌∷◌, Some}
use Rattle.std.specs.Prelude.{nat_eq}
use Rattle.std.specs.List.{AllByRecursion, IsDistinct}
use Rattle.std.specs.Map.{lookup, keys_of}
use Rattle.std.specs.Cmp.Lexicographic.{pointwise}
use Rattle.indexmap.specs.IndexMap.{insert_entry, insert_all}
use Rattle.sv_terms.specs.NamedLaws.{found-set, found-other}

abbrev Name : Type 0
Name = List ℕ

abbrev same : Name → Name → Bool
same = pointwise nat_eq

module _ {V : Type 0} where
  -- a name that isn't set keeps its value
  pub found-behind : (xs es : List (Name × V)) (q : Name) → AllByRecursion (λ k. same q k ≡ false) (keys_of xs) → lookup (same q) (insert_all same es xs) ≡ lookup (same q) es
  found-behind [] es q h = refl
  found-behind (x ∷ xs) es q h = found-behind xs (insert_entry same es x.0 x.1) q h.1 ∙ found-other es x.0 q x.1 h.0

  -- each has the value that it was given
  pub all-found : (xs es : List (Name × V)) → IsDistinct same (keys_of xs) → AllByRecursion (λ (x : Name × V). lookup (same x.0) (insert_all same es xs) ≡ Some x.1) xs
  unfolding IsDistinct
  all-found [] es h = tt
  all-found (x ∷ xs) es h = (found-behind xs (insert_entry same es x.0 x.1) x.0 h.0 ∙ found-set es x.0 x.1, all-found xs (insert_entry same es x.0 x.1) h.1)
