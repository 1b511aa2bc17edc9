-- Terms as the arguments of a function, and as formulas.
use Rattle.std.specs.Prelude.{List, map}
use Rattle.sv_terms.specs.declared.term.Term.{Term}
use Rattle.literal_forms.specs.Shapes.{seen, shapes, raw, head_sort}
use Rattle.bool_cubes.specs.Trees.{Formula, Part, formula, parts, negated, equal}

abbrev pub parts_of : List Term → List Part
parts_of ts = parts (shapes (map seen ts))

abbrev pub formulas_of : List Term → List Formula
formulas_of ts = map (λ (t : Term). formula (seen t)) ts

abbrev pub part_of : Term → Part
part_of t = record { of = head_sort (seen t); raw = raw (seen t); formula = formula (seen t) }

-- the first term differs from each of the others
abbrev pub first_pairs : Term → List Term → List Formula
first_pairs t ts = map (λ (q : Part). negated (equal (part_of t) q)) (parts_of ts)
