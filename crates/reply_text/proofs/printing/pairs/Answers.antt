use Rattle.std.proofs.Common.{◌++◌, ap, ◌∙◌, arith}
use Rattle.reply_text.specs.Replies.{pair_text}
use Rattle.reply_text.proofs.Spacing.{spaced-first, spaced-next}
use Rattle.reply_text.proofs.printing.pairs.Goals as goal
use Rattle.reply_text.proofs.printing.pairs.Goals.{then-at-gt0+in_ok-push, else-at-gt0}

pub loop-at-preserved : goal.loop-at-preserved
loop-at-preserved c =
    let item = c.index-pairs-at.result in
    elim c.if-at-gt0.branch [
      | then-at-gt0+in_ok-push w ↦
          spaced-next pair_text c.args.pairs.now item c.loop-at.at c.args.text.now.items c.loop-at.text.items w.push.new.self.items c.pair.new.text.items c.loop-at-test.true c.index-pairs-at.is w.if-at-gt0.true c.loop-at.invariant w.in_ok-push.ensures.items
          (c.in_ok-pair.ensures ∙ ap (λ z. z.items ++ pair_text item) w.text-is)
      | else-at-gt0 w ↦
          spaced-first pair_text c.args.pairs.now item c.loop-at.at c.args.text.now.items c.loop-at.text.items c.pair.new.text.items c.loop-at-test.true c.index-pairs-at.is (omega (arith, w.if-at-gt0.false)) c.loop-at.invariant
          (c.in_ok-pair.ensures ∙ ap (λ z. z.items ++ pair_text item) w.text-is)
    ]
