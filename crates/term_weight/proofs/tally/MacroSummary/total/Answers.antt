use Rattle.std.proofs.Common.{◌≡◌, ◌+◌, sym, ap, subst, ◌∙◌, get_or, drop, length, arith}
use Rattle.term_weight.specs.declared.share.Share.{Share}
use Rattle.term_weight.specs.Summaries.{plus, used, all_used, unused}
use Rattle.term_weight.proofs.Sharing.{used-begin, used-step, used-end}
use Rattle.term_weight.proofs.tally.MacroSummary.total.Goals as goal

pub loop-i-init : goal.loop-i-init
loop-i-init c = ap (λ z. plus z (all_used c.args.self.now.uses c.args.weights.now)) c.nothing-sum.ensures ∙ used-begin c.args.self.now.uses c.args.weights.now

pub loop-i-preserved : goal.loop-i-preserved
loop-i-preserved c =
    let us = c.args.self.now.uses in
    let ws = c.args.weights.now in
    let i = c.loop-i.i in
    subst (λ (z : Share). plus z (all_used (drop (i + 1) us) (drop (i + 1) ws)) ≡ all_used us ws)
    (sym (c.plus-sum.ensures ∙ ap (plus c.loop-i.sum) (c.share.ensures ∙ (λ j. used (get_or (c.as_slice-uses-items.ensures j) i unused) (c.argument.ensures j)))))
    (used-step c.loop-i.sum us ws i unused _ (omega (arith, c.loop-i-test.true, ap length c.as_slice-uses-items.ensures)) c.loop-i.invariant)

pub returns : goal.returns
returns c = c.plus.ensures ∙ used-end c.args.self.now.own c.loop-i.sum c.args.self.now.uses c.args.weights.now c.loop-i.i (omega (arith, c.loop-i-test.false, ap length c.as_slice-uses-items.ensures)) c.loop-i.invariant
