-- The bindings of a scope, and an index of them by their names.
use Rattle.std.specs.Prelude.{◌≡◌, ℕ, List, [], ◌∷◌, ◌++◌, map, Option}
use Rattle.term_walk.specs.declared.scope.Binding.{Binding}
use Rattle.term_weight.specs.Places.{shown}
use Rattle.term_walk.specs.Meant.{latest}
use Rattle.smt_names.specs.Signature.{Name}

abbrev pub bound_pairs : List Binding → List (Name × ℕ)
bound_pairs bs = map (λ b. (b.name, b.place)) bs

-- each binding knows what it hides
abbrev pub HidesFrom : List (Name × ℕ) → List Binding → Type 0
HidesFrom done [] = Unit {0}
HidesFrom done (b ∷ bs) = (b.hides ≡ latest b.name done) × HidesFrom (done ++ (b.name, b.place) ∷ []) bs

-- the index says what each name stands for
pub record IsNameIndex (bs : List Binding) (places : List (Name × Option ℕ)) : Type 0 where
  pub found : (n : Name) → shown n places ≡ latest n (bound_pairs bs)
  pub hidden : HidesFrom [] bs
