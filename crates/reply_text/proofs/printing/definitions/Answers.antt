use Rattle.reply_text.specs.Replies.{definition_text}
use Rattle.reply_text.proofs.Spacing.{joined-next}
use Rattle.reply_text.proofs.printing.definitions.Goals as goal

pub loop-constant-preserved : goal.loop-constant-preserved
loop-constant-preserved c =
    joined-next definition_text c.args.constants.now c.constant-item.result c.loop-constant.constant-index c.args.text.now.items c.loop-constant.text.items c.definition.new.text.items c.loop-constant-test.true c.constant-item.is c.loop-constant.invariant c.in_ok-definition.ensures
