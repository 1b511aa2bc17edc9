-- Terms without opaque parts.
use Rattle.std.proofs.Common.{◌≡◌, refl, Bool, true, false, List, [], ◌∷◌, Some}
use Rattle.std.specs.Prelude.{not}
use Rattle.std.specs.List.{AllByRecursion}
use Rattle.bool_cubes.specs.Laws.{IsClearBool}
use Rattle.sv_terms.specs.Parts.{is_opaque}
use Rattle.sv_terms.specs.Sorting.{sort_of}
use Rattle.sv_terms.specs.Truth.{clear_of}
use Rattle.sv_terms.specs.declared.sort.Sort.TheVariants as sort
use Rattle.sv_terms.specs.declared.term.Term.{Term}
use mathlib.Core.Bool.{cond}

one_kept : (t : Term) (b : Bool) → is_opaque t ≡ b → sort_of t ≡ Some sort.Bool → (ts : List Term) → AllByRecursion IsClearBool ts → AllByRecursion IsClearBool (cond (not b) (t ∷ ts) ts)
one_kept t true e s ts h = h
one_kept t false e s ts h = (record { sorted = s; clear = e }, h)

pub clear_sorted : (ts : List Term) → AllByRecursion (λ (t : Term). sort_of t ≡ Some sort.Bool) ts → AllByRecursion IsClearBool (clear_of ts)
clear_sorted [] h = tt
clear_sorted (t ∷ ts) h = one_kept t (is_opaque t) refl h.0 (clear_of ts) (clear_sorted ts h.1)
