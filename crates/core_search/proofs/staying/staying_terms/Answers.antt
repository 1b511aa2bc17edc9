use Rattle.std.proofs.Common.{rules, ◌≡◌, ◌∷◌, ◌++◌, [], ap, sym, ◌∙◌}
use Rattle.core_search.proofs.Stayings.{none_stays, next-stays, next-goes}
use Rattle.core_search.proofs.staying.staying_terms.Goals as goal
use Rattle.core_search.proofs.staying.staying_terms.Goals.{then-not-is_out+in_ok-copy+in_ok-push, else-not-is_out}

pub loop-at-init : goal.loop-at-init
loop-at-init c = c.new-stay.ensures ∙ sym (none_stays c.args.outs.now)

pub loop-at-preserved : goal.loop-at-preserved
loop-at-preserved c =
    elim c.if-not-is_out.branch [
      | then-not-is_out+in_ok-copy+in_ok-push w ↦
          let t = w.index-terms-at.result in
          let copied : w.in_ok-copy.field-0 ≡ t = w.in_ok-copy.ensures in
          w.stay-is ∙ w.in_ok-push.ensures.ok ∙ ap (λ x. c.loop-at.stay ++ x ∷ []) copied ∙ ap (λ l. l ++ t ∷ []) c.loop-at.invariant
          ∙ sym (next-stays c.args.outs.now c.args.terms.now c.loop-at.at t c.is_out.result c.loop-at-test.true w.index-terms-at.is c.is_out.ensures (search rules))
      | else-not-is_out w ↦ w.stay-is ∙ c.loop-at.invariant ∙ sym (next-goes c.args.outs.now c.args.terms.now c.loop-at.at c.is_out.result c.loop-at-test.true c.is_out.ensures (search rules))
    ]
