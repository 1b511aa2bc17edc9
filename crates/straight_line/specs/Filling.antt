-- Variables to which is added, place by place, what was met.
use Rattle.std.specs.Prelude.{ℕ, ◌<◌, Bool, List, [], ◌∷◌, ◌++◌, map, filter, length, get_or, nat_eq, slice_set, Option, Some, None}
use Rattle.std.specs.List.{AllByRecursion}
use Rattle.flat_cubes.specs.Flattening.{with_name}
use Rattle.flat_cubes.specs.declared.variable.Own.{Own}
use Rattle.flat_cubes.specs.declared.variable.Variable.{Variable}

abbrev pub AreNumbersBelow : ℕ → List ℕ → Type 0
AreNumbersBelow n of = (i : ℕ) → i < length of → get_or of i 0 < n

abbrev pub ArePartsBelow : ℕ → List (ℕ × (Own × Bool)) → Type 0
ArePartsBelow n ps = AllByRecursion (λ (p : ℕ × (Own × Bool)). p.0 < n) ps

-- nothing is said of it
abbrev pub free_variable : Variable
free_variable = record { names = []; parts = [] }

-- one more name, if there is one
abbrev pub named : ℕ → Option (List ℕ) → List Variable → List Variable
named v None vs = vs
named v (Some n) vs = slice_set vs v (record { names = (get_or vs v free_variable).names ++ n ∷ []; parts = (get_or vs v free_variable).parts })

abbrev pub named_all : List ℕ → List (Option (List ℕ)) → List Variable → List Variable
named_all of [] vs = vs
named_all [] (n ∷ ns) vs = vs
named_all (v ∷ of) (n ∷ ns) vs = named_all of ns (named v n vs)

-- one more part
abbrev pub parted : ℕ → Own × Bool → List Variable → List Variable
parted v p vs = slice_set vs v (record { names = (get_or vs v free_variable).names; parts = (get_or vs v free_variable).parts ++ p ∷ [] })

abbrev pub parted_all : List ℕ → List (ℕ × (Own × Bool)) → List Variable → List Variable
parted_all of [] vs = vs
parted_all of (p ∷ ps) vs = parted_all of ps (parted (get_or of p.0 0) p.1 vs)

-- the names of the places whose number is v
abbrev pub names_from : List (Option (List ℕ)) → List ℕ → ℕ → List (List ℕ)
names_from [] of v = []
names_from (n ∷ ns) [] v = []
names_from (n ∷ ns) (u ∷ of) v = with_name (nat_eq u v) n (names_from ns of v)

-- the parts that were met at the places whose least place is r
abbrev pub parts_from : List (ℕ × (Own × Bool)) → List ℕ → ℕ → List (Own × Bool)
parts_from ps firsts r = map (λ (p : ℕ × (Own × Bool)). p.1) (filter (λ (p : ℕ × (Own × Bool)). nat_eq (get_or firsts p.0 p.0) r) ps)

-- the variable whose least place is r
abbrev pub variable_from : List (Option (List ℕ)) → List (ℕ × (Own × Bool)) → List ℕ → ℕ → Variable
variable_from ns ps firsts r = record { names = names_from ns firsts r; parts = parts_from ps firsts r }
