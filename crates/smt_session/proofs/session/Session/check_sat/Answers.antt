use Rattle.std.proofs.Common.{Some, ap, sym, ◌∙◌, subst, IsTrue}
use Rattle.std.specs.List.{AllByRecursion}
use Rattle.assert_stack.specs.Levels.{symbols_of, live}
use Rattle.decide.specs.Verdicts.{RightVerdict}
use Rattle.sort_check.specs.WellFormed.{is_well_formed, IsTermOf}
use Rattle.sv_terms.specs.declared.sort.Sort.TheVariants as sort
use Rattle.smt_session.specs.Standing.{IsKeptOf}
use Rattle.smt_session.specs.Steps.{State, kept_of}
use Rattle.smt_session.specs.Verdicts.{IsVerdictFor}
use Rattle.smt_session.proofs.Kept.{kept-alone}
use Rattle.smt_session.proofs.Soundness.{sound-formed, sound-live}
use Rattle.smt_session.proofs.session.Session.check_sat.Goals as goal

pub verdict_of-requires-clause-well_formed : goal.verdict_of-requires-clause-well_formed
verdict_of-requires-clause-well_formed g c κs within = subst (λ z. IsTrue (is_well_formed z)) (sym c.symbols.ensures) (sound-formed c.self.inside.stack c.self.invariant.0)

pub verdict_of-requires-clause-terms : goal.verdict_of-requires-clause-terms
verdict_of-requires-clause-terms g c κs within =
    subst (AllByRecursion (IsTermOf c.symbols.result.now sort.Bool)) (sym c.live.ensures)
    (subst (λ z. AllByRecursion (IsTermOf z sort.Bool) (live c.self.inside.stack)) (sym c.symbols.ensures) (sound-live c.constants_have_values.ensures.kept c.self.inside.stack c.self.invariant.0))

pub keep-requires : goal.keep-requires
keep-requires g c =
    let s = c.self.inside.stack in
    let answer = c.in_ok-verdict.verdict in
    let right = subst (λ l. RightVerdict l answer) c.live.ensures c.in_ok-verdict.ensures.right in
    let covers = subst (λ l. IsVerdictFor (symbols_of s) l answer) c.live.ensures (subst (λ z. IsVerdictFor z c.live.result.now answer) c.symbols.ensures c.in_ok-verdict.ensures.covers) in
    subst (λ ls. IsKeptOf ls (Some (kept_of c.new.result answer))) (ap (λ (t : State). t.levels) c.self.view_is)
    (subst (λ assumed. IsKeptOf s (Some (kept_of assumed answer))) (sym c.new.ensures) (kept-alone c.entries_are_well_formed.ensures.found s answer (sound-formed s c.self.invariant.0) right covers))
