-- The intervals of characters, by the list that follows on them.
use Rattle.std.specs.Prelude.{◌≡◌, ℕ, ◌≤◌, ◌++◌, Bool, IsTrue, List, [], ◌∷◌, Some, unwrap_or, Contains}
use Rattle.std.specs.declared.cmp.Ordering.{Ordering}
use Rattle.std.specs.BTreeMap.{BTreeMap, get, Updates}
use Rattle.std.specs.Cmp.Lexicographic.{slice_cmp}
use Rattle.std.specs.Ordering.{nat_cmp}
use Rattle.sv_word.specs.Ranges.{in_ranges}
use Rattle.subset_machine.specs.Subsets.{ListsAll}
use Rattle.sv_word.specs.Words.{greatest_character}

-- the order of lists of states
abbrev pub lists_cmp : List ℕ → List ℕ → Ordering
lists_cmp = slice_cmp nat_cmp

-- the list follows on the interval: it has the states that the hits have at its first character, and isn't empty but where that is wanted
abbrev pub FollowsOn : List (ℕ × ℕ) → Bool → ℕ × ℕ → List ℕ → Type 0
FollowsOn hits dead mark next = ListsAll (λ t. Contains hits (mark.0, t)) next × (next ≡ [] → IsTrue dead)

-- under each list are the intervals on which it follows
pub record AreGroups (marks hits : List (ℕ × ℕ)) (dead : Bool) (groups : BTreeMap (List ℕ) (List (ℕ × ℕ))) : Type 0 where
  pub sound : (next : List ℕ) (ms : List (ℕ × ℕ)) → get lists_cmp groups next ≡ Some ms → (m : ℕ × ℕ) → Contains ms m → Contains marks m × FollowsOn hits dead m next
  pub complete : (m : ℕ × ℕ) → Contains marks m → (next : List ℕ) → FollowsOn hits dead m next → (ms : List (ℕ × ℕ)) × (get lists_cmp groups next ≡ Some ms) × Contains ms m
  pub inhabited : (next : List ℕ) (ms : List (ℕ × ℕ)) → get lists_cmp groups next ≡ Some ms → (m : ℕ × ℕ) × Contains ms m

-- one interval more under this list
abbrev pub AddsMark : BTreeMap (List ℕ) (List (ℕ × ℕ)) → BTreeMap (List ℕ) (List (ℕ × ℕ)) → List ℕ → ℕ × ℕ → Type 0
AddsMark old new next mark = Updates lists_cmp old new next (Some (unwrap_or (get lists_cmp old next) [] ++ mark ∷ []))

-- some interval, and all are intervals of characters
pub record AreIntervals (ms : List (ℕ × ℕ)) : Type 0 where
  pub some : (m : ℕ × ℕ) × Contains ms m
  pub inside : (m : ℕ × ℕ) → Contains ms m → (m.0 ≤ m.1) × (m.1 ≤ greatest_character)

-- the move reads the characters under this list, at no cost, and leads to it
abbrev pub MovesUnder : BTreeMap (List ℕ) (List (ℕ × ℕ)) → ℕ → List ℕ → List ℕ → Type 0
MovesUnder groups c cost to = (ms : List (ℕ × ℕ)) × (get lists_cmp groups to ≡ Some ms) × IsTrue (in_ranges ms c) × (cost ≡ [])
