use Rattle.std.proofs.Common.{true, get_or, slice_set, ap, sym, ◌∙◌, arith}
use Rattle.std.proofs.lemmas.List.{set_past}
use Rattle.core_search.proofs.Searching.{none-out, out-next}
use Rattle.core_search.proofs.search.leave_out.Goals as goal
use Rattle.core_search.proofs.search.leave_out.Goals.{then-place-len, else-place-len}

pub loop-at-init : goal.loop-at-init
loop-at-init c = c.in_ok-all.ensures ∙ c.as_slice.ensures ∙ none-out c.args.low c.args.names.now c.args.outs.now

pub loop-at-preserved : goal.loop-at-preserved
loop-at-preserved c =
    let name = get_or c.args.names.now c.loop-at.at c.index-names-at.result in
    let next = out-next c.args.names.now c.args.low c.loop-at.at name c.args.outs.now c.loop-at.auto.at (omega (arith, c.loop-at-test.true, c.requires.within)) (ap (get_or c.args.names.now c.loop-at.at) c.index-names-at.is) in
    elim c.if-place-len.branch [
      | then-place-len w ↦ w.all-is ∙ w.set.ensures ∙ ap (λ l. slice_set l name.1 true) c.loop-at.invariant ∙ sym next
      | else-place-len w ↦ w.all-is ∙ sym (set_past c.loop-at.all name.1 true (omega (arith, w.if-place-len.false, c.len.ensures))) ∙ ap (λ l. slice_set l name.1 true) c.loop-at.invariant ∙ sym next
    ]
