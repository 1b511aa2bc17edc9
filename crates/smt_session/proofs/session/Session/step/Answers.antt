use Rattle.std.proofs.Common.{ap, sym, ◌∙◌, subst}
use Rattle.std.proofs.lemmas.Result.{IfOk-weaker}
use Rattle.assert_stack.specs.Levels.{symbols_of}
use Rattle.sort_check.specs.Checking.{checked}
use Rattle.smt_names.specs.Form.{seen}
use Rattle.smt_session.specs.Standing.{FitsLevels}
use Rattle.smt_session.specs.Steps.{State, Performs}
use Rattle.smt_session.proofs.Soundness.{fits}
use Rattle.smt_session.proofs.session.Session.step.Goals as goal

pub perform-requires-clause-fits : goal.perform-requires-clause-fits
perform-requires-clause-fits g c κs within =
    let stack = c.self.inside.stack in
    let is = sym (ap (λ z. checked z (seen c.args.item.now)) c.symbols.ensures) ∙ c.in-Ok.ensures in
    subst (λ ls. FitsLevels ls c.in-Ok.command) (ap (λ (s : State). s.levels) c.self.view_is)
    (fits c.terms_are_sorted.ensures.asserted c.terms_are_sorted.ensures.named c.terms_are_sorted.ensures.assumed c.terms_are_taken_one_by_one.ensures c.additions_are_well_formed.ensures.declared c.additions_are_well_formed.ensures.defined c.additions_are_well_formed.ensures.named stack c.args.item.now c.in-Ok.command c.self.invariant.0 is)

pub returns-in-Ok-clause-ok : goal.returns-in-Ok-clause-ok
returns-in-Ok-clause-ok g c =
    let at = c.symbols.ensures ∙ ap symbols_of (ap (λ (s : State). s.levels) c.self.view_is) in
    let is = sym (ap (λ z. checked z (seen c.args.item.now)) at) ∙ c.in-Ok.ensures in
    IfOk-weaker c.perform.result _ _ (λ r does. subst (λ x. Performs c.args.self.now x r c.perform.new.self) (sym is) does) c.perform.ensures.ok
