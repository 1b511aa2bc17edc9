-- Costs: one number for each register, none of them negative (after the registers of cost-enriched automata, Chen et al., ATVA 2020).
use Rattle.std.specs.Prelude.{◌≡◌, ℕ, ◌+◌, ◌<◌, ◌≤◌, ◌^◌, max, List, [], ◌∷◌, length, slice_index, replicate}

-- costs are added register by register
abbrev pub add_costs : List ℕ → List ℕ → List ℕ
add_costs [] ys = []
add_costs (x ∷ xs) [] = []
add_costs (x ∷ xs) (y ∷ ys) = (x + y) ∷ add_costs xs ys

-- nothing at each register
abbrev pub zeros : ℕ → List ℕ
zeros width = replicate width 0

-- the costs of some steps and of the end after them, added up
abbrev pub total_of : List (List ℕ) → List ℕ → List ℕ
total_of [] last = last
total_of (k ∷ costs) last = add_costs k (total_of costs last)

-- some costs added up, nothing at each register where there are none
abbrev pub sum_costs : ℕ → List (List ℕ) → List ℕ
sum_costs width costs = total_of costs (zeros width)

-- what some steps cost at one register, and one number more
abbrev pub entry_total : ℕ → List (List ℕ) → ℕ → ℕ
entry_total register [] last = last
entry_total register (k ∷ costs) last = slice_index k register + entry_total register costs last

-- one number for each of so many registers, and none above `top`
pub record IsCost (width top : ℕ) (cost : List ℕ) : Type 0 where
  pub entries : length cost ≡ width
  pub below : (k : ℕ) → slice_index cost k ≤ top

-- the two costs can be added: they have as many numbers, and no sum is past 64 bits
pub record CanAdd (a b : List ℕ) : Type 0 where
  pub same : length a ≡ length b
  pub fits : (k : ℕ) → slice_index a k + slice_index b k < 2 ^ 64

-- each number fits 64 bits
abbrev pub Fits : List ℕ → Type 0
Fits cost = (k : ℕ) → slice_index cost k < 2 ^ 64

-- the first register whose number is past 64 bits
pub record IsFirstPast (cost : List ℕ) (register : ℕ) : Type 0 where
  pub past : 2 ^ 64 ≤ slice_index cost register
  pub first : (k : ℕ) → k < register → slice_index cost k < 2 ^ 64

-- the greatest number that `f` has in a list, and 0 in an empty one
abbrev pub top_by : {X : Type 0} → (X → ℕ) → List X → ℕ
top_by f [] = 0
top_by f (x ∷ xs) = max (f x) (top_by f xs)

-- the greatest number of a cost
abbrev pub cost_top : List ℕ → ℕ
cost_top = top_by (λ x. x)
