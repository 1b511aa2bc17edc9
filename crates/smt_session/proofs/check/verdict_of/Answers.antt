use Rattle.std.proofs.Common.{sym, subst}
use Rattle.decide.specs.Completeness.{IsComplete}
use Rattle.decide.specs.Jobs.{IsFolded}
use Rattle.decide.specs.Verdicts.{RightVerdict, HasOnly}
use Rattle.decide.proofs.Rightness.{some-cube-of}
use Rattle.decide.specs.declared.verdict.Verdict.TheVariants.{Sat}
use Rattle.smt_session.specs.Verdicts.{IsModelFor}
use Rattle.smt_session.proofs.Models.{one-sort, right-model, complete-model, model-for}
use Rattle.smt_session.proofs.Soundness.{formed-all, known, sorted-all}
use Rattle.smt_session.proofs.check.verdict_of.Goals as goal

pub check-requires-clause-sorts : goal.check-requires-clause-sorts
check-requires-clause-sorts g c κs within =
    one-sort c.entries_are_well_formed.ensures.allowed c.entries_are_well_formed.ensures.found c.constants_have_values.ensures.valued c.args.symbols.now c.args.live.now c.requires.well_formed (known c.args.symbols.now c.args.live.now c.requires.terms)

pub returns-in_ok-model-in-Sat-clause-right : goal.returns-in_ok-model-in-Sat-clause-right
returns-in_ok-model-in-Sat-clause-right g c =
    subst (λ m. RightVerdict c.args.live.now (Sat m)) (sym c.in_ok-model-in-Sat.ensures)
    (right-model c.entries_are_well_formed.ensures.allowed c.entries_are_well_formed.ensures.found c.constants_have_values.ensures.valued c.args.symbols.now c.args.live.now c.in-Sat.values c.requires.well_formed (known c.args.symbols.now c.args.live.now c.requires.terms)
    (subst (RightVerdict c.args.live.now) c.in-Sat.is c.in_ok-values.ensures.right))

pub returns-in_ok-model-in-Sat-clause-covers : goal.returns-in_ok-model-in-Sat-clause-covers
returns-in_ok-model-in-Sat-clause-covers g c =
    subst (IsModelFor c.args.symbols.now c.args.live.now) (sym c.in_ok-model-in-Sat.ensures)
    (model-for c.entries_are_well_formed.ensures.allowed c.entries_are_well_formed.ensures.found c.constants_have_values.ensures.valued c.args.symbols.now c.args.live.now c.in-Sat.values c.requires.well_formed (known c.args.symbols.now c.args.live.now c.requires.terms)
    (subst (RightVerdict c.args.live.now) c.in-Sat.is c.in_ok-values.ensures.right).1 (subst (HasOnly c.args.live.now) c.in-Sat.is c.in_ok-values.ensures.only)
    (some-cube-of c.args.live.now c.in-Sat.values (subst (IsFolded c.args.live.now) c.in-Sat.is c.in_ok-values.ensures.folded)))

pub returns-in_ok-model-in-Sat-clause-complete : goal.returns-in_ok-model-in-Sat-clause-complete
returns-in_ok-model-in-Sat-clause-complete g c = λ must. complete-model c.args.live.now c.in-Sat.values _ (subst (IsComplete c.args.live.now) c.in-Sat.is (c.in_ok-values.ensures.complete must))

pub check-requires-clause-sorted : goal.check-requires-clause-sorted
check-requires-clause-sorted g c κs within = sorted-all c.args.symbols.now c.args.live.now c.requires.terms

pub check-requires-clause-formed : goal.check-requires-clause-formed
check-requires-clause-formed g c κs within = formed-all c.args.symbols.now c.args.live.now c.requires.terms
