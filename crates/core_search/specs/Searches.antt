-- How far a search for a core has come. Nothing public rests on it.
use Rattle.std.specs.Prelude.{◌≡◌, ◌<◌, ◌≤◌, ◌-◌, ℕ, Bool, List, [], ◌∷◌, length, take, drop, IsTrue, Some}
use Rattle.std.specs.List.{AllByRecursion}
use Rattle.assertion_parts.specs.Constants.{ConstantsHaveOneSort}
use Rattle.sv_terms.specs.Sorting.{sort_of}
use Rattle.sv_terms.specs.TransducerSizes.{has_formed}
use Rattle.sv_terms.specs.Truth.{HasNoValues, clear_of}
use Rattle.sv_terms.specs.declared.sort.Sort.TheVariants as sort
use Rattle.sv_terms.specs.declared.term.Term.{Term}
use Rattle.core_search.specs.Cores.{NamedPlace, Entry, staying, without, IsReasonToStay, IsCoreFrom}
use Rattle.core_search.specs.declared.search.Bound.{Bound}
use Rattle.core_search.specs.declared.search.Search.{Search}

-- the terms of these names are left out too
abbrev pub all_out : List NamedPlace → List Bool → List Bool
all_out [] outs = outs
all_out (name ∷ names) outs = all_out names (without name.1 outs)

-- the names from one place up to another
abbrev pub between : ℕ → ℕ → List NamedPlace → List NamedPlace
between low high names = take (high - low) (drop low names)

-- terms of sort Bool in which each name has one sort, and whose transducers are formed
pub record AreTerms (terms : List Term) : Type 0 where
  pub sorted : AllByRecursion (λ t. sort_of t ≡ Some sort.Bool) terms
  pub formed : AllByRecursion (λ t. IsTrue (has_formed t)) terms
  pub sorts : ConstantsHaveOneSort terms

-- what stays has no values
pub record Stands (terms : List Term) (names : List NamedPlace) (search : Search) : Type 0 where
  pub within : search.tried ≤ length names
  pub refuted : HasNoValues (clear_of (staying search.outs terms))

-- what is listed from the later search on is what is listed from the earlier one on
pub record Leads (terms : List Term) (names : List NamedPlace) (early late : Search) : Type 0 where
  pub stands : Stands terms names late
  pub further : early.tried ≤ late.tried
  pub listed : (list : List Entry) → IsCoreFrom terms late.outs (drop late.tried names) list → IsCoreFrom terms early.outs (drop early.tried names) list

-- with the names up to the bound left out too, there is a verdict that isn't `unsat`
pub record IsBound (terms : List Term) (names : List NamedPlace) (search : Search) (bound : Bound) : Type 0 where
  pub after : search.tried < bound.to
  pub within : bound.to ≤ length names
  pub outs : bound.outs ≡ all_out (between search.tried bound.to names) search.outs
  pub reason : IsReasonToStay (staying bound.outs terms) bound.answer
