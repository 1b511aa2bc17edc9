-- The quantities that are unknowns of rows, with their numbers.
use Rattle.std.specs.Prelude.{ℕ, ◌<◌, Bool, true, false, List, [], ◌∷◌, ◌++◌, length, Some, None, ⊤}
use Rattle.std.specs.List.{AllByRecursion}
use Rattle.flat_cubes.specs.declared.draft.Quantity.{Quantity}
use Rattle.flat_cubes.specs.declared.draft.Quantity.TheVariants.{Integer, Length}
use Rattle.straight_line.specs.declared.keeping.KeptUnknowns.{KeptUnknowns}

-- the place of a length is below n
abbrev pub IsQuantityBelow : ℕ → Quantity → Type 0
IsQuantityBelow n (Integer name) = ⊤
IsQuantityBelow n (Length i) = i < n

abbrev pub AreQuantitiesBelow : ℕ → List Quantity → Type 0
AreQuantitiesBelow n qs = AllByRecursion (IsQuantityBelow n) qs

abbrev pub nothing_kept : KeptUnknowns
nothing_kept = record { integers = []; registers = []; integer_numbers = []; register_numbers = [] }

-- one more quantity, which is kept where it is used; f has the variables of places
abbrev pub kept : (ℕ → ℕ) → Quantity → Bool → KeptUnknowns → KeptUnknowns
kept f q false k = record { integers = k.integers; registers = k.registers; integer_numbers = k.integer_numbers ++ None ∷ []; register_numbers = k.register_numbers ++ None ∷ [] }
kept f (Integer name) true k = record { integers = k.integers ++ name ∷ []; registers = k.registers; integer_numbers = k.integer_numbers ++ Some (length k.integers) ∷ []; register_numbers = k.register_numbers ++ None ∷ [] }
kept f (Length i) true k = record { integers = k.integers; registers = k.registers ++ f i ∷ []; integer_numbers = k.integer_numbers ++ None ∷ []; register_numbers = k.register_numbers ++ Some (length k.registers) ∷ [] }

abbrev pub kept_all : (ℕ → ℕ) → List Quantity → List Bool → KeptUnknowns → KeptUnknowns
kept_all f [] bs k = k
kept_all f (q ∷ qs) [] k = k
kept_all f (q ∷ qs) (b ∷ bs) k = kept_all f qs bs (kept f q b k)
