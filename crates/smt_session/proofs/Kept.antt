-- What is known of a verdict that is kept.
use Rattle.std.proofs.Common.{◌≡◌, List, [], ◌∷◌, ◌++◌, Some, IsTrue, append-nil, ap, sym, ◌∙◌, subst}
use Rattle.std.specs.List.{AllByRecursion}
use Rattle.assert_stack.specs.Levels.{Level, symbols_of, live}
use Rattle.decide.specs.Completeness.{MustDecide, IsComplete}
use Rattle.decide.specs.Verdicts.{RightVerdict}
use Rattle.decide.specs.declared.verdict.Verdict.{Verdict}
use Rattle.decide.specs.declared.verdict.Verdict.TheVariants as verdict
use Rattle.sort_check.specs.WellFormed.{is_well_formed, IsTermOf}
use Rattle.sv_terms.specs.Truth.{HasNoValues, clear_of}
use Rattle.sv_terms.specs.declared.sort.Sort.TheVariants as sort
use Rattle.sv_terms.specs.declared.term.Term.{Term}
use Rattle.smt_session.specs.Standing.{IsKeptOf}
use Rattle.smt_session.specs.Steps.{State, Tells, Checks, kept_of, with_verdict}
use Rattle.smt_session.specs.Verdicts.{IsVerdictFor}
use Rattle.smt_session.specs.declared.reply.Reply.{Reply}
use Rattle.smt_session.proofs.Models.{Placed, given}

-- it stands by what is right of it
pub kept-stands : Placed → (levels : List Level) (assumed : List Term) (answer : Verdict) → IsTrue (is_well_formed (symbols_of levels)) → AllByRecursion (IsTermOf (symbols_of levels) sort.Bool) assumed
    → RightVerdict (live levels ++ assumed) answer → IsVerdictFor (symbols_of levels) (live levels ++ assumed) answer → IsKeptOf levels (Some (kept_of assumed answer))
kept-stands placed levels assumed (verdict.Sat values) formed terms right covers = given placed values (symbols_of levels) formed covers.covers
kept-stands placed levels assumed (verdict.Unsat refutation) formed terms right covers = record { terms = terms; refuted = right }
kept-stands placed levels assumed (verdict.Unknown why) formed terms right covers = tt

-- on the live assertions alone
pub kept-alone : Placed → (levels : List Level) (answer : Verdict) → IsTrue (is_well_formed (symbols_of levels)) → RightVerdict (live levels) answer → IsVerdictFor (symbols_of levels) (live levels) answer → IsKeptOf levels (Some (kept_of [] answer))
kept-alone placed levels answer formed right covers =
    let all = sym (append-nil (live levels)) in
    kept-stands placed levels [] answer formed tt (subst (λ l. RightVerdict l answer) all right) (subst (λ l. IsVerdictFor (symbols_of levels) l answer) all covers)

-- a verdict that is told and kept is one that a check gives
pub checks-told : (s t : State) (terms assumed : List Term) (answer : Verdict) (r : Reply) → RightVerdict terms answer → (MustDecide terms → IsComplete terms answer) → IsVerdictFor (symbols_of s.levels) terms answer
    → Tells r answer × (t ≡ with_verdict (kept_of assumed answer) s) → Checks s terms assumed r t
checks-told s t terms assumed answer r right complete covers h = record { answer = answer; told = h.0; right = right; complete = complete; covers = covers; after = h.1 }
