use Rattle.std.proofs.Common.{◌≡◌, ap, sym, ◌∙◌, subst}
use Rattle.core_search.specs.Cores.{staying}
use Rattle.core_search.specs.Searches.{AreTerms}
use Rattle.core_search.proofs.Stayings.{terms_stay}
use Rattle.core_search.proofs.search.verdict_on.Given.{Over}
use Rattle.core_search.proofs.search.verdict_on.Goals as goal

are : (g : Over) (c : goal.After-check-arg-1 g) → AreTerms c.as_slice-2.result.now
are g c =
    let all : c.as_slice-2.result.now ≡ staying c.args.outs.now c.args.terms.now = c.as_slice-2.ensures ∙ c.in_ok-stay.ensures ∙ ap (λ o. staying o c.args.terms.now) c.as_slice.ensures in
    subst AreTerms (sym all) (terms_stay c.args.outs.now c.args.terms.now c.requires.terms)

pub check-requires-clause-sorted : goal.check-requires-clause-sorted
check-requires-clause-sorted g c κs within = (are g c).sorted

pub check-requires-clause-formed : goal.check-requires-clause-formed
check-requires-clause-formed g c κs within = (are g c).formed

pub check-requires-clause-sorts : goal.check-requires-clause-sorts
check-requires-clause-sorts g c κs within = (are g c).sorts
