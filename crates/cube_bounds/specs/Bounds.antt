-- How many states the machines of the variables of a flat cube have at most: numbers of its text,
-- without bound.
use Rattle.std.specs.Prelude.{ℕ, ◌+◌, ◌*◌, ◌-◌, ◌^◌, max, List, [], ◌∷◌, map, length, get_or, slice_set, filter, not, Bool, true, false}
use Rattle.std.specs.List.{range_with_len}
use Rattle.sv_terms.specs.Bounds.{size}
use Rattle.flat_cubes.specs.Using.{is_defined, used}
use Rattle.flat_cubes.specs.declared.variable.Own.{Own}
use Rattle.flat_cubes.specs.declared.variable.Own.TheVariants as own
use Rattle.flat_cubes.specs.declared.variable.Variable.{Variable}
use Rattle.flat_cubes.specs.declared.definition.By.{By}
use Rattle.flat_cubes.specs.declared.definition.By.TheVariants as by
use Rattle.flat_cubes.specs.declared.definition.Definition.{Definition}
use Rattle.flat_cubes.specs.declared.flat.Flat.{Flat}

-- of a machine for what a part says
abbrev pub part_bound : Own × Bool → ℕ
part_bound (own.Word w, true) = length w + 1
part_bound (own.Word w, false) = length w + 2
part_bound (own.InRe r, true) = size r
part_bound (own.InRe r, false) = 2 ^ size r
part_bound (own.Prefix w, true) = length w + 1
part_bound (own.Prefix w, false) = length w + 2
part_bound (own.Suffix w, b) = length w + 1
part_bound (own.Contains w, b) = length w + 1
part_bound (own.Digit, true) = 2
part_bound (own.Digit, false) = 3

-- the product of what f gives for each, as `sum_by` is the sum
abbrev pub product_by : {X : Type 0} → (X → ℕ) → List X → ℕ
product_by f [] = 1
product_by f (x ∷ xs) = f x * product_by f xs

-- of a machine for all parts of a variable; a register adds no state
abbrev pub own_bound : Variable → ℕ
own_bound v = product_by part_bound v.parts

-- the number of states of the transducer that defines a variable; 1 where none does
abbrev pub through_states : By → ℕ
through_states (by.Concat vs) = 1
through_states (by.First p u v) = max (length p) 1 + 1
through_states (by.All p u v) = max (length p) 1
through_states (by.Through t v) = t.states

-- the number of a variable multiplied by k
abbrev pub times_at : ℕ → ℕ → List ℕ → List ℕ
times_at k v ns = slice_set ns v (get_or ns v 1 * k)

-- for each occurrence
abbrev pub times_all : ℕ → List ℕ → List ℕ → List ℕ
times_all k [] ns = ns
times_all k (v ∷ vs) ns = times_at k v (times_all k vs ns)

-- the numbers of the variables that a definition uses, once that of the variable that it defines is known
abbrev pub carried : Definition → List ℕ → List ℕ
carried d ns = times_all (through_states d.by * get_or ns d.variable 1) (used d.by) ns

-- the same for all definitions, the last one first: each stands before those that use its variable
abbrev pub carried_all : List Definition → List ℕ → List ℕ
carried_all [] ns = ns
carried_all (d ∷ ds) ns = carried d (carried_all ds ns)

-- of a machine of each variable: its own bound, times the number of x for each occurrence in the
-- concatenation that defines x, and times t and the number of x where a transducer with t states defines x from it
abbrev pub states_of : Flat → List ℕ
states_of flat = carried_all flat.definitions (map own_bound flat.variables)

abbrev pub greatest : ℕ → List ℕ → ℕ
greatest a [] = a
greatest a (n ∷ ns) = max n (greatest a ns)

-- states(v)
abbrev pub states_at : Flat → ℕ → ℕ
states_at flat v = get_or (states_of flat) v 1

-- the greatest of them, at least 1
abbrev pub states : Flat → ℕ
states flat = greatest 1 (states_of flat)

-- the ways to cut a machine of n states into those of the pieces that it is joined from; 1 where it isn't joined
abbrev pub splits_by : ℕ → By → ℕ
splits_by n (by.Concat vs) = n ^ (length vs - 1)
splits_by n (by.First p u v) = 1
splits_by n (by.All p u v) = 1
splits_by n (by.Through t v) = 1

abbrev pub splits : Flat → ℕ
splits flat = product_by (λ (d : Definition). splits_by (states_at flat d.variable) d.by) flat.definitions

-- the variables that aren't defined, literals among them
abbrev pub sources_of : Flat → List ℕ
sources_of flat = filter (λ v. not (is_defined flat.definitions v)) (range_with_len 0 (length flat.variables))

abbrev pub sources : Flat → ℕ
sources flat = length (sources_of flat)
