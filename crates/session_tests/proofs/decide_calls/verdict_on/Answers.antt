use Rattle.std.proofs.Common.{◌≡◌, IsTrue, Some, sym, ◌∙◌, subst}
use Rattle.std.specs.List.{AllByRecursion}
use Rattle.sv_terms.specs.Sorting.{sort_of}
use Rattle.sv_terms.specs.declared.sort.Sort.TheVariants as sort
use Rattle.assertion_parts.specs.Constants.{ConstantsHaveOneSort}
use Rattle.sv_terms.specs.TransducerSizes.{has_formed}
use Rattle.session_tests.proofs.DecideSamples.{two-formed, two-sorted, two-valued}
use Rattle.session_tests.proofs.decide_calls.verdict_on.Goals as goal

pub check-requires-clause-sorted : goal.check-requires-clause-sorted
check-requires-clause-sorted g c κs within =
    subst (AllByRecursion (λ t. sort_of t ≡ Some sort.Bool)) (sym (c.as_slice.ensures ∙ c.in_ok-terms.ensures)) (two-sorted c.args.first c.args.second c.requires.first c.requires.second)

pub check-requires-clause-formed : goal.check-requires-clause-formed
check-requires-clause-formed g c κs within =
    subst (AllByRecursion (λ t. IsTrue (has_formed t))) (sym (c.as_slice.ensures ∙ c.in_ok-terms.ensures)) (two-formed c.args.first c.args.second c.requires.first c.requires.second)

pub check-requires-clause-sorts : goal.check-requires-clause-sorts
check-requires-clause-sorts g c κs within =
    subst ConstantsHaveOneSort (sym (c.as_slice.ensures ∙ c.in_ok-terms.ensures)) (two-valued c.args.first c.args.second c.requires.first c.requires.second)
