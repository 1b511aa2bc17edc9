use Rattle.std.proofs.Common.{◌+◌, ◌-◌, ◌/◌, ◌<◌, ◌≤◌, subst, arith}
use Rattle.decide.specs.Verdicts.{RightVerdict}
use Rattle.core_search.specs.Cores.{staying}
use Rattle.core_search.proofs.Searching.{leads-on, bound-on, bound-last}
use Rattle.core_search.proofs.search.narrow.Goals as goal

pub halves-preserved-in-Unsat : goal.halves-preserved-in-Unsat
halves-preserved-in-Unsat g c =
    let h = c.halves.invariant in
    let low = c.halves.search.tried in
    let half = (c.halves.bound.to - low) / 2 in
    let more : low ≤ low + half = omega arith in
    let less : low + half < c.halves.bound.to = omega (arith, c.halves-test.true) in
    let none = subst (RightVerdict (staying c.in_ok-outs.outs c.args.terms.now)) c.in-Unsat.is c.in_ok-answer.ensures.right in
    record {
      leads = leads-on c.args.terms.now c.args.names.now c.args.search.now c.halves.search (low + half) c.in_ok-outs.outs more (omega (arith, less, h.bound.within)) c.in_ok-outs.ensures none h.leads;
      bound = bound-on c.args.terms.now c.args.names.now c.halves.search c.halves.bound (low + half) c.in_ok-outs.outs more less c.in_ok-outs.ensures h.bound;
    }

pub returns-clause-reason : goal.returns-clause-reason
returns-clause-reason g c =
    let h = c.halves.invariant in
    bound-last c.args.terms.now c.args.names.now c.halves.search c.halves.bound h.bound (omega (arith, c.halves-test.false, h.bound.after))
