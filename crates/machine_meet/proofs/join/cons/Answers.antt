use Rattle.std.proofs.Common.{◌∷◌, ◌++◌, [], take, ap, sym, ◌∙◌}
use Rattle.std.proofs.lemmas.List.{take_all, take_more}
use Rattle.machine_meet.proofs.join.cons.Goals as goal

pub loop-s-init : goal.loop-s-init
loop-s-init g c =
    c.in_ok-push.ensures.ok ∙ ap (λ l. l ++ c.in_ok-copy.field-0 ∷ []) (c.from_vec-all.ensures ∙ c.in_ok-room.ensures.items) ∙ ap (λ h. h ∷ []) c.in_ok-copy.ensures

pub loop-s-preserved : goal.loop-s-preserved
loop-s-preserved g c =
    let items = c.as_slice-s-items.result.now in
    let i = c.loop-s.s-index in
    let more = ap (λ s. take i items ++ s ∷ []) (c.in_ok-copy-2.ensures ∙ c.s-item.is) ∙ sym (take_more items i c.s-item.result c.loop-s-test.true) in
    c.in_ok-push-2.ensures.ok ∙ ap (λ l. l ++ c.in_ok-copy-2.field-0 ∷ []) c.loop-s.invariant ∙ ap (λ l. c.args.head.now ∷ l) more

pub returns : goal.returns
returns g c = c.loop-s.invariant ∙ ap (λ l. c.args.head.now ∷ l) (take_all c.loop-s.s-index c.as_slice-s-items.result.now c.loop-s-test.false ∙ c.as_slice-s-items.ensures)
