use Rattle.std.proofs.Common.{◌≡◌, ◌<◌, ℕ, get_or}
use Rattle.sv_terms.specs.declared.sort.Sort.TheVariants as sort
use Rattle.sv_terms.specs.declared.term.Term.{Term}
use Rattle.literal_forms.specs.Shapes.{head_sort, seen}
use Rattle.bool_cubes.proofs.planning.have_boolean.Given as goal

abbrev pub invariant-loop-i : goal.invariant-loop-i
invariant-loop-i l = (k : ℕ) (t : Term) → k < l.i → t ≡ get_or l.terms k t → head_sort (seen t) ≡ sort.Bool → ⊥
