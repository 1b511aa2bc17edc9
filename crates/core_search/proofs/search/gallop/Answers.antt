use Rattle.std.proofs.Common.{◌≤◌, length, subst, arith}
use Rattle.decide.specs.Verdicts.{RightVerdict}
use Rattle.core_search.specs.Cores.{staying}
use Rattle.core_search.proofs.Searching.{leads-on}
use Rattle.core_search.proofs.search.gallop.Goals as goal
use Rattle.core_search.proofs.search.gallop.Goals.{then-step-names, else-step-names}

pub rising-preserved : goal.rising-preserved
rising-preserved g c =
    let h = c.rising.invariant in
    let low = c.rising.search.tried in
    let to = c.if-step-names.to in
    let more : low ≤ to = elim c.if-step-names.branch [ then-step-names w ↦ omega (arith, w.to-is) | else-step-names w ↦ omega (arith, w.to-is, c.rising-test.true) ] in
    let within : to ≤ length c.args.names.now = elim c.if-step-names.branch [ then-step-names w ↦ omega (arith, w.to-is, w.if-step-names.true) | else-step-names w ↦ omega (arith, w.to-is) ] in
    let none = subst (RightVerdict (staying c.in_ok-outs.outs c.args.terms.now)) c.in-Unsat.is c.in_ok-answer.ensures.right in
    record {
      leads = leads-on c.args.terms.now c.args.names.now c.args.search.now c.rising.search to c.in_ok-outs.outs more within c.in_ok-outs.ensures none h.leads;
      some = omega (arith, c.saturating_add-step.ensures, h.some);
    }
