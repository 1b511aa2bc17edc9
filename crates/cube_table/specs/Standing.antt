-- What holds of the levels of a script.
use Rattle.std.specs.Prelude.{◌≡◌, IsTrue, List, Some}
use Rattle.std.specs.List.{AllByRecursion}
use Rattle.assert_stack.specs.Levels.{Level, live, symbols_of}
use Rattle.sort_check.specs.WellFormed.{is_well_formed}
use Rattle.sv_terms.specs.Sorting.{sort_of}
use Rattle.sv_terms.specs.declared.sort.Sort.TheVariants as sort
use Rattle.sv_terms.specs.declared.term.Term.{Term}

-- the declared names are well formed, and each live assertion has sort Bool
pub record IsStanding (levels : List Level) : Type 0 where
  pub formed : IsTrue (is_well_formed (symbols_of levels))
  pub sorted : AllByRecursion (λ (t : Term). sort_of t ≡ Some sort.Bool) (live levels)
