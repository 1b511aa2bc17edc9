-- How long the words of the variables of a flat cube may become: numbers of its text, without bound.
use Rattle.std.specs.Prelude.{ℕ, ◌+◌, ◌*◌, ◌/◌, max, ℤ, pos, ◌-ℤ◌, List, [], ◌∷◌, map, length, get_or, slice_set}
use Rattle.std.specs.List.{sum_by}
use Rattle.sv_terms.specs.TransducerSizes.{edges_most, ends_most}
use Rattle.sv_terms.specs.declared.limits.TheConstants.{MOST_CHARACTERS}
use Rattle.cube_bounds.specs.Bounds.{greatest}
use Rattle.flat_cubes.specs.declared.definition.By.{By}
use Rattle.flat_cubes.specs.declared.definition.By.TheVariants as by
use Rattle.flat_cubes.specs.declared.definition.Definition.{Definition}
use Rattle.flat_cubes.specs.declared.flat.Flat.{Flat}

-- the growth of a variable that is so defined, by those of the variables that the definition uses: 1 is
-- that of a variable that isn't defined. The pattern of a replacement counts, for a machine may write the
-- characters that it held back on one edge
abbrev pub growth_by : List ℕ → By → ℕ
growth_by gs (by.Concat vs) = sum_by (λ v. get_or gs v 1) vs
growth_by gs (by.First p u v) = get_or gs v 1 + length p + length u
growth_by gs (by.All p u v) = (get_or gs v 1 + length p) * max 1 (length u)
growth_by gs (by.Through t v) = max (get_or gs v 1) (get_or gs v 1 * edges_most t.edges + ends_most t.ends)

-- the same for all definitions, the first one first: each stands before those that use its variable
abbrev pub grown : List ℕ → List Definition → List ℕ
grown gs [] = gs
grown gs (d ∷ ds) = grown (slice_set gs d.variable (growth_by gs d.by)) ds

abbrev pub growth_of : Flat → List ℕ
growth_of flat = grown (map (λ v. 1) flat.variables) flat.definitions

-- growth(v)
abbrev pub growth_at : Flat → ℕ → ℕ
growth_at flat v = get_or (growth_of flat) v 1

-- the greatest of them, at least 1
abbrev pub growth : Flat → ℕ
growth flat = greatest 1 (growth_of flat)

-- the most characters of a word of a model
abbrev pub longest_word : ℕ
longest_word = MOST_CHARACTERS

-- the most characters of all source words for which no word is longer than that, -1 where there is none
abbrev pub reach : Flat → ℤ
reach flat = pos (longest_word / growth flat) -ℤ pos 1
