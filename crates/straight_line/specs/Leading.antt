-- Places that lead to others that aren't greater, and in the end to the least of those that are one with them.
use Rattle.std.specs.Prelude.{◌≡◌, ℕ, ◌<◌, ◌≤◌, List, length, filter, get_or, nat_eq, nat_lt}
use Rattle.std.specs.List.{AllByRecursion, range_with_len}
use Rattle.flat_cubes.specs.Using.{used}
use Rattle.flat_cubes.specs.Flattening.{renamed}
use Rattle.flat_cubes.specs.Straight.{AreBelow}
use Rattle.flat_cubes.specs.declared.definition.By.{By}
use Rattle.flat_cubes.specs.declared.definition.Definition.{Definition}

-- pairs of numbers below n
abbrev pub ArePairsBelow : ℕ → List (ℕ × ℕ) → Type 0
ArePairsBelow n es = AllByRecursion (λ (e : ℕ × ℕ). (e.0 < n) × (e.1 < n)) es

-- each place leads to one that isn't greater
abbrev pub IsForest : List ℕ → Type 0
IsForest above = (i : ℕ) → i < length above → get_or above i 0 ≤ i

-- each place leads to one that has the same least place, and a place that leads to itself is its own
pub record LeadsTo (firsts above : List ℕ) : Type 0 where
  pub count : length firsts ≡ length above
  pub same : (i : ℕ) → i < length above → get_or firsts (get_or above i 0) 0 ≡ get_or firsts i 0
  pub own : (i : ℕ) → i < length above → get_or above i 0 ≡ i → get_or firsts i 0 ≡ i

-- the places below n that are the least among those that are one with them
abbrev pub roots_in : ℕ → List ℕ → List ℕ
roots_in n firsts = filter (λ i. nat_eq (get_or firsts i i) i) (range_with_len 0 n)

-- how many of them come before the least place of i
abbrev pub ordinal : ℕ → List ℕ → ℕ → ℕ
ordinal n firsts i = length (filter (λ r. nat_lt r (get_or firsts i i)) (roots_in n firsts))

-- definitions of places below n by places below n
abbrev pub AreDefinitionsBelow : ℕ → List (ℕ × By) → Type 0
AreDefinitionsBelow n ds = AllByRecursion (λ (e : ℕ × By). (e.0 < n) × AreBelow n (used e.1)) ds

-- a definition of a place as one of its variable
abbrev pub definition_by : (ℕ → ℕ) → ℕ × By → Definition
definition_by f e = record { variable = f e.0; by = renamed f e.1 }

-- each least place is its own
abbrev pub AreRooted : List ℕ → Type 0
AreRooted firsts = (i : ℕ) → i < length firsts → get_or firsts (get_or firsts i 0) 0 ≡ get_or firsts i 0
