-- Lists of sorted terms.
use Rattle.std.proofs.Common.{◌≡◌, List, [], ◌∷◌, ◌++◌, subst, sym}
use Rattle.std.specs.List.{AllByRecursion}
use Rattle.bool_cubes.specs.Laws.{IsClearBool}
use Rattle.sv_terms.specs.declared.term.Term.{Term}

with_one : (ts : List Term) (t : Term) → AllByRecursion IsClearBool ts → IsClearBool t → AllByRecursion IsClearBool (ts ++ t ∷ [])
with_one [] t h k = (k, tt)
with_one (u ∷ us) t h k = (h.0, with_one us t h.1 k)

pub sorted_none : (ts : List Term) → ts ≡ [] → AllByRecursion IsClearBool ts
sorted_none ts e = subst (AllByRecursion IsClearBool) (sym e) tt

pub sorted_more : (ts us : List Term) (t : Term) → AllByRecursion IsClearBool ts → IsClearBool t → us ≡ ts ++ t ∷ [] → AllByRecursion IsClearBool us
sorted_more ts us t h k e = subst (AllByRecursion IsClearBool) (sym e) (with_one ts t h k)
