use Rattle.std.proofs.Common.{◌≡◌, ◌++◌, List, Some, ap, sym, ◌∙◌, length, subst}
use Rattle.assert_stack.specs.Levels.{Level, live}
use Rattle.sv_terms.specs.Truth.{HasNoValues, clear_of}
use Rattle.sv_terms.specs.declared.term.Term.{Term}
use Rattle.smt_session.specs.Standing.{AreSound, IsKeptOf}
use Rattle.smt_session.proofs.Assuming.{all-live, are-terms, back}
use Rattle.smt_session.proofs.session.Session.core.Goals as goal

pub find_core-core-requires-clause-terms : goal.find_core-core-requires-clause-terms
find_core-core-requires-clause-terms g c κs within =
    let s = c.self.inside.stack in
    let kept = subst (IsKeptOf s) (c.in-Some.is ∙ ap Some c.in-Unsat.is) c.self.invariant.1 in
    are-terms s c.assert_all.new.self c.in_ok-assumed.assumed c.in-Unsat.terms c.in_ok-assumed.ensures c.in_ok-assert_all.ensures.ok c.in_ok-assert_all.ensures.live
    c.constants_have_values.ensures.kept c.entries_are_well_formed.ensures.allowed c.entries_are_well_formed.ensures.found c.constants_have_values.ensures.valued c.self.invariant.0 kept.terms c.live.result.now c.live.ensures

pub find_core-core-requires-clause-refuted : goal.find_core-core-requires-clause-refuted
find_core-core-requires-clause-refuted g c κs within =
    let s = c.self.inside.stack in
    let kept = subst (IsKeptOf s) (c.in-Some.is ∙ ap Some c.in-Unsat.is) c.self.invariant.1 in
    let all = all-live s c.assert_all.new.self c.in_ok-assumed.assumed c.in-Unsat.terms c.in_ok-assumed.ensures c.in_ok-assert_all.ensures.ok c.in_ok-assert_all.ensures.live c.live.result.now c.live.ensures in
    subst (λ (l : List Term). HasNoValues (clear_of l)) (sym all) kept.refuted

pub invariant_of-self-in_err-core : goal.invariant_of-self-in_err-core
invariant_of-self-in_err-core g c =
    let s = c.self.inside.stack in
    let same = c.in_ok-assumed.ensures in
    let left = back s c.assert_all.new.self c.in_ok-assumed.assumed c.in-Unsat.terms same c.in_ok-assert_all.ensures.ok c.in_ok-assert_all.ensures.live c.drop_last.new.self c.len-count.result c.drop_last.ensures (c.len-count.ensures ∙ ap length same) in
    (subst AreSound (sym left) c.self.invariant.0, subst (λ (ls : List Level). IsKeptOf ls c.self.inside.verdict) (sym left) c.self.invariant.1, c.self.invariant.2)

pub invariant_of-self-2 : goal.invariant_of-self-2
invariant_of-self-2 g c =
    let s = c.self.inside.stack in
    let same = c.in_ok-assumed.ensures in
    let left = back s c.assert_all.new.self c.in_ok-assumed.assumed c.in-Unsat.terms same c.in_ok-assert_all.ensures.ok c.in_ok-assert_all.ensures.live c.drop_last.new.self c.len-count.result c.drop_last.ensures (c.len-count.ensures ∙ ap length same) in
    (subst AreSound (sym left) c.self.invariant.0, subst (λ (ls : List Level). IsKeptOf ls c.self.inside.verdict) (sym left) c.self.invariant.1, c.self.invariant.2)
