use Rattle.std.specs.Prelude.{codes}
use Rattle.reply_text.specs.Replies.{name_text, sort_text, value_text}
use Rattle.reply_text.proofs.Spacing.{lined}
use Rattle.reply_text.proofs.shown.definition.Goals as goal

pub returns : goal.returns
returns c =
    let constant = c.args.constant.now in
    lined c.args.text.now.items c.extend_from_slice.new.self.items c.name.new.text.items c.extend_from_slice-2.new.self.items c.sort.new.text.items c.push.new.self.items c.value.new.text.items c.extend_from_slice-3.new.self.items
    (codes "  (define-fun ") (name_text constant.0) (codes " () ") (sort_text constant.1) (value_text constant.2)
    c.in_ok-extend_from_slice.ensures.items c.in_ok-name.ensures c.in_ok-extend_from_slice-2.ensures.items c.in_ok-sort.ensures c.in_ok-push.ensures.items c.in_ok-value.ensures c.in_ok-extend_from_slice-3.ensures.items
