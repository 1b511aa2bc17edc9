use Rattle.std.proofs.Common.{rules, ◌≡◌, ◌+◌, length, take, true, false, replicate, ⊎_elim, get_or, ap, sym, ◌∙◌, subst}
use Rattle.std.proofs.lemmas.List.{length-replicate}
use Rattle.std.proofs.lemmas.Bool.{cases_lt}
use Rattle.lia_branch.specs.EdgeSums.{AreSetMarks}
use Rattle.lia_branch.proofs.EdgeRows.{marked_none, marked_more, marked_beyond, length_set}
use Rattle.lia_branch.proofs.edge_sums.marks_of.Goals as goal

pub loop-state-init : goal.loop-state-init
loop-state-init c =
    let none : c.in_ok-marks.marks.items ≡ replicate c.args.states false = search rules in
    (ap length none ∙ length-replicate c.args.states false, marked_none c.args.states c.in_ok-marks.marks.items none)

pub loop-state-preserved : goal.loop-state-preserved
loop-state-preserved c =
    let i = c.loop-state.state-index in
    let marks = c.loop-state.marks.items in
    let inv = c.loop-state.invariant in
    ⊎_elim
    (λ low.
    let e = c.mark.ensures.within low in
    (ap length e ∙ length_set marks (get_or c.args.set.now i 0) true ∙ inv.0, subst (AreSetMarks c.args.states (take (i + 1) c.args.set.now)) (sym e) (marked_more c.args.states c.args.set.now i marks c.loop-state-test.true inv.0 inv.1 low)))
    (λ high.
    let e = c.mark.ensures.beyond high in
    (ap length e ∙ inv.0, subst (AreSetMarks c.args.states (take (i + 1) c.args.set.now)) (sym e) (marked_beyond c.args.states c.args.set.now i marks c.loop-state-test.true inv.0 inv.1 high)))
    (cases_lt (get_or c.args.set.now i 0) (length marks))
