use Rattle.std.proofs.Common.{◌++◌, ap, sym, ◌∙◌, arith}
use Rattle.reply_text.specs.Replies.{entry_text, name_text}
use Rattle.reply_text.proofs.Spacing.{spaced-first, spaced-next}
use Rattle.reply_text.proofs.printing.names.Goals as goal
use Rattle.reply_text.proofs.printing.names.Goals.{then-at-gt0+in_ok-push, else-at-gt0}

pub loop-at-preserved : goal.loop-at-preserved
loop-at-preserved g c =
    let item = c.index-entries-at.result in
    elim c.if-at-gt0.branch [
      | then-at-gt0+in_ok-push w ↦
          spaced-next entry_text c.args.entries.now item c.loop-at.at c.args.text.now.items c.loop-at.text.items w.push.new.self.items c.name.new.text.items c.loop-at-test.true c.index-entries-at.is w.if-at-gt0.true c.loop-at.invariant w.in_ok-push.ensures.items
          (c.in_ok-name.ensures ∙ ap (λ e. c.if-at-gt0.text.items ++ name_text e.0) (sym c.index-entries-at.is) ∙ ap (λ z. z.items ++ name_text item.0) w.text-is)
      | else-at-gt0 w ↦
          spaced-first entry_text c.args.entries.now item c.loop-at.at c.args.text.now.items c.loop-at.text.items c.name.new.text.items c.loop-at-test.true c.index-entries-at.is (omega (arith, w.if-at-gt0.false)) c.loop-at.invariant
          (c.in_ok-name.ensures ∙ ap (λ e. c.if-at-gt0.text.items ++ name_text e.0) (sym c.index-entries-at.is) ∙ ap (λ z. z.items ++ name_text item.0) w.text-is)
    ]
