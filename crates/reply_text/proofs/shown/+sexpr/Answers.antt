use Rattle.std.proofs.Common.{◌++◌, ap, ◌∙◌, arith}
use Rattle.reply_text.specs.Replies.{sexpr_text}
use Rattle.reply_text.proofs.Spacing.{spaced-first, spaced-next}
use Rattle.reply_text.proofs.shown.+sexpr.Goals as goal
use Rattle.reply_text.proofs.shown.+sexpr.Goals.{sexprs-then-at-gt0+in_ok-push, sexprs-else-at-gt0}

pub sexprs-loop-at-preserved : goal.sexprs-loop-at-preserved
sexprs-loop-at-preserved t c =
    let item = c.index-items-at.result in
    elim c.if-at-gt0.branch [
      | sexprs-then-at-gt0+in_ok-push w ↦
          spaced-next sexpr_text c.args.items.now item c.loop-at.at c.args.text.now.items c.loop-at.text.items w.push.new.self.items c.sexpr.new.text.items c.loop-at-test.true c.index-items-at.is w.if-at-gt0.true c.loop-at.invariant w.in_ok-push.ensures.items
          (c.in_ok-sexpr.ensures ∙ ap (λ z. z.items ++ sexpr_text item) w.text-is)
      | sexprs-else-at-gt0 w ↦
          spaced-first sexpr_text c.args.items.now item c.loop-at.at c.args.text.now.items c.loop-at.text.items c.sexpr.new.text.items c.loop-at-test.true c.index-items-at.is (omega (arith, w.if-at-gt0.false)) c.loop-at.invariant
          (c.in_ok-sexpr.ensures ∙ ap (λ z. z.items ++ sexpr_text item) w.text-is)
    ]
