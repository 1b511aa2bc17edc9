-- Definitions by the variables that they define, and ways from variables to those that they use.
use Rattle.std.specs.Prelude.{◌≡◌, ℕ, ⊤, List, [], ◌∷◌, length, get_or, slice_get, Option, Some, None, Result, Ok, Err}
use Rattle.flat_cubes.specs.Flattening.{IsCycle, IsTwice, NoneTwice, UsesInTurn, ordered}
use Rattle.straight_line.specs.Waiting.{HaveOnce}
use Rattle.flat_cubes.specs.declared.definition.Definition.{Definition}
use Rattle.flat_cubes.specs.declared.fault.FlatFault.{FlatFault}
use Rattle.flat_cubes.specs.declared.fault.FlatFault.TheVariants.{Outside, Twice, Cycle, Wide, Memory}

-- the place of each definition stands at its variable
abbrev pub HasPlaces : List Definition → List (Option ℕ) → Type 0
HasPlaces ds places = (k : ℕ) (d : Definition) → slice_get ds k ≡ Some d → get_or places d.variable None ≡ Some k

-- the places of definitions of n variables, or a variable that has two
abbrev pub IsPlacedExactly : ℕ → List Definition → Result (List (Option ℕ)) FlatFault → Type 0
IsPlacedExactly n ds (Ok places) = (length places ≡ n) × HasPlaces ds places × HaveOnce ds × NoneTwice ds
IsPlacedExactly n ds (Err (Outside l)) = ⊥
IsPlacedExactly n ds (Err (Twice v)) = IsTwice ds v
IsPlacedExactly n ds (Err (Cycle vs)) = ⊥
IsPlacedExactly n ds (Err (Wide m)) = ⊥
IsPlacedExactly n ds (Err (Memory e)) = ⊤

-- each variable's definition uses the next variable, and the last one's the one behind
abbrev pub LeadTo : List Definition → List ℕ → ℕ → Type 0
LeadTo ds [] last = ⊤
LeadTo ds (v ∷ vs) last = UsesInTurn ds v vs last

-- all definitions in order; or else a variable that has two, or, where none has, a cycle
abbrev pub IsStraightened : List Definition → Result (List Definition) FlatFault → Type 0
IsStraightened ds (Ok es) = (es ≡ ordered ds) × (length es ≡ length ds) × HaveOnce ds × NoneTwice ds
IsStraightened ds (Err (Outside l)) = ⊥
IsStraightened ds (Err (Twice v)) = IsTwice ds v
IsStraightened ds (Err (Cycle vs)) = NoneTwice ds × IsCycle ds vs
IsStraightened ds (Err (Wide n)) = ⊥
IsStraightened ds (Err (Memory e)) = ⊤
