use Rattle.std.proofs.Common.{◌≡◌, ◌++◌, List, Some, ap, sym, ◌∙◌, subst}
use Rattle.std.proofs.lemmas.Result.{IfOk-weaker}
use Rattle.std.specs.List.{AllByRecursion}
use Rattle.assert_stack.specs.Levels.{Level, symbols_of, live}
use Rattle.decide.specs.Completeness.{IsComplete, MustDecide}
use Rattle.decide.specs.Verdicts.{RightVerdict}
use Rattle.sort_check.specs.WellFormed.{IsTermOf}
use Rattle.sv_terms.specs.declared.sort.Sort.TheVariants as sort
use Rattle.sv_terms.specs.declared.term.Term.{Term}
use Rattle.smt_session.specs.Standing.{AreSound, IsKeptOf}
use Rattle.smt_session.specs.Steps.{State, state, kept_of, with_verdict}
use Rattle.smt_session.specs.Verdicts.{IsVerdictFor}
use Rattle.smt_session.proofs.Assuming.{all-live, all-terms, back, err_then, same-symbols}
use Rattle.smt_session.proofs.Kept.{kept-stands, checks-told}
use Rattle.smt_session.proofs.Soundness.{sound-formed}
use Rattle.smt_session.proofs.session.Session.check_assuming.Goals as goal

pub verdict_of-answer-requires-clause-terms : goal.verdict_of-answer-requires-clause-terms
verdict_of-answer-requires-clause-terms g c κs within =
    let s = c.self.inside.stack in
    let terms = subst (λ (ls : List Level). AllByRecursion (IsTermOf (symbols_of ls) sort.Bool) c.args.assumed) (sym (ap (λ (t : State). t.levels) c.self.view_is)) c.requires in
    all-terms s c.assert_all.new.self c.in_ok-asserted.asserted c.args.assumed c.in_ok-asserted.ensures c.in_ok-assert_all.ensures.ok c.in_ok-assert_all.ensures.live
    c.constants_have_values.ensures.kept c.self.invariant.0 terms c.symbols.result.now c.live.result.now c.symbols.ensures c.live.ensures

pub invariant_of-self-2 : goal.invariant_of-self-2
invariant_of-self-2 g c =
    let s = c.self.inside.stack in
    let left = back s c.assert_all.new.self c.in_ok-asserted.asserted c.args.assumed c.in_ok-asserted.ensures c.in_ok-assert_all.ensures.ok c.in_ok-assert_all.ensures.live c.drop_last.new.self c.len-count.result c.drop_last.ensures c.len-count.ensures in
    (subst AreSound (sym left) c.self.invariant.0, subst (λ (ls : List Level). IsKeptOf ls c.self.inside.verdict) (sym left) c.self.invariant.1, c.self.invariant.2)

pub keep-requires : goal.keep-requires
keep-requires g c =
    let s = c.self.inside.stack in
    let answer = c.in_ok-answer.field-0 in
    let same = c.in_ok-asserted.ensures in
    let left = back s c.assert_all.new.self c.in_ok-asserted.asserted c.args.assumed same c.in_ok-assert_all.ensures.ok c.in_ok-assert_all.ensures.live c.drop_last.new.self c.len-count.result c.drop_last.ensures c.len-count.ensures in
    let all = all-live s c.assert_all.new.self c.in_ok-asserted.asserted c.args.assumed same c.in_ok-assert_all.ensures.ok c.in_ok-assert_all.ensures.live c.live.result.now c.live.ensures in
    let symbols = same-symbols s c.assert_all.new.self c.in_ok-asserted.asserted c.args.assumed same c.in_ok-assert_all.ensures.ok c.in_ok-assert_all.ensures.live c.symbols.result.now c.symbols.ensures in
    let terms = subst (λ (ls : List Level). AllByRecursion (IsTermOf (symbols_of ls) sort.Bool) c.args.assumed) (sym (ap (λ (t : State). t.levels) c.self.view_is)) c.requires in
    let right = subst (λ (l : List Term). RightVerdict l answer) all c.in_ok-answer.ensures.right in
    let covers = subst (λ (l : List Term). IsVerdictFor (symbols_of s) l answer) all (subst (λ z. IsVerdictFor z c.live.result.now answer) symbols c.in_ok-answer.ensures.covers) in
    subst (λ (ls : List Level). IsKeptOf ls (Some (kept_of c.assumed.inside.items.items answer))) (sym left)
    (subst (λ (l : List Term). IsKeptOf s (Some (kept_of l answer))) (sym c.assumed.view_is)
    (kept-stands c.entries_are_well_formed.ensures.found s c.args.assumed answer (sound-formed s c.self.invariant.0) terms right covers))

pub returns-clause-ok : goal.returns-clause-ok
returns-clause-ok g c =
    let s = c.self.inside in
    let answer = c.in_ok-answer.field-0 in
    let same = c.in_ok-asserted.ensures in
    let left = back s.stack c.assert_all.new.self c.in_ok-asserted.asserted c.args.assumed same c.in_ok-assert_all.ensures.ok c.in_ok-assert_all.ensures.live c.drop_last.new.self c.len-count.result c.drop_last.ensures c.len-count.ensures in
    let levels = ap (λ (t : State). t.levels) c.self.view_is in
    let all = all-live s.stack c.assert_all.new.self c.in_ok-asserted.asserted c.args.assumed same c.in_ok-assert_all.ensures.ok c.in_ok-assert_all.ensures.live c.live.result.now c.live.ensures ∙ ap (λ (ls : List Level). live ls ++ c.args.assumed) levels in
    let symbols = same-symbols s.stack c.assert_all.new.self c.in_ok-asserted.asserted c.args.assumed same c.in_ok-assert_all.ensures.ok c.in_ok-assert_all.ensures.live c.symbols.result.now c.symbols.ensures ∙ ap symbols_of levels in
    let terms = live c.args.self.now.levels ++ c.args.assumed in
    let right = subst (λ (l : List Term). RightVerdict l answer) all c.in_ok-answer.ensures.right in
    let complete = λ (must : MustDecide terms). subst (λ (l : List Term). IsComplete l answer) all (c.in_ok-answer.ensures.complete (subst MustDecide (sym all) must)) in
    let covers = subst (λ (l : List Term). IsVerdictFor (symbols_of c.args.self.now.levels) l answer) all (subst (λ z. IsVerdictFor z c.live.result.now answer) symbols c.in_ok-answer.ensures.covers) in
    let kept =
    ap (λ (l : List Term). with_verdict (kept_of l answer) (state c.drop_last.new.self s.verdict s.prints s.ended)) c.assumed.view_is
    ∙ ap (λ (ls : List Level). with_verdict (kept_of c.args.assumed answer) (state ls s.verdict s.prints s.ended)) left
    ∙ ap (with_verdict (kept_of c.args.assumed answer)) c.self.view_is in
    IfOk-weaker c.keep.result _ _ (λ r h. checks-told c.args.self.now c.keep.new.self terms c.args.assumed answer r right complete covers (h.0, h.1 ∙ kept)) c.keep.ensures.ok

pub returns-clause-err : goal.returns-clause-err
returns-clause-err g c =
    let s = c.self.inside in
    let same = c.in_ok-asserted.ensures in
    let left = back s.stack c.assert_all.new.self c.in_ok-asserted.asserted c.args.assumed same c.in_ok-assert_all.ensures.ok c.in_ok-assert_all.ensures.live c.drop_last.new.self c.len-count.result c.drop_last.ensures c.len-count.ensures in
    err_then c.keep.result (λ e. e ∙ ap (λ (ls : List Level). state ls s.verdict s.prints s.ended) left ∙ c.self.view_is) c.keep.ensures.err
