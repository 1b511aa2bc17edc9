use Rattle.cube_draft.proofs.Stated.{strings_left, strings_neither, strings_right}
use Rattle.cube_draft.proofs.meeting.DraftBuilder.add_strings.Goals as goal

pub returns-in-Text : goal.returns-in-Text
returns-in-Text c = strings_left c.args.self.now c.add_literal.new.self c.args.left.now c.args.right.now c.args.positive c.in-Text.word c.add_literal.result c.in-Text.is c.add_literal.ensures

pub returns-in-Text-right : goal.returns-in-Text-right
returns-in-Text-right c =
    strings_right c.args.self.now c.add_part.new.self c.args.left.now c.args.right.now c.args.positive c.in-Text-right.word c.in_ok-copy.field-0 c.add_part.result c.in_default.not-Text c.in-Text-right.is c.in_ok-copy.ensures c.add_part.ensures

pub returns : goal.returns
returns c = strings_neither c.args.self.now c.add_identity.new.self c.args.left.now c.args.right.now c.args.positive c.add_identity.result c.in_default.not-Text c.in_default-right.not-Text c.add_identity.ensures
