use Rattle.cube_draft.proofs.Stated.{one_added}
use Rattle.cube_draft.proofs.meeting.DraftBuilder.add_identity.Goals as goal

pub returns : goal.returns
returns c =
    one_added c.args.self.now c.place.new.self c.place-2.new.self c.equate.new.self c.args.left.now c.args.right.now c.args.positive c.is_string.result c.is_string-2.result c.in_ok-left.left c.in_ok-right.right c.if-not-positive.false c.is_string.ensures c.if-not-is_string.false
    c.is_string-2.ensures c.if-not-is_string-2.false c.in_ok-left.ensures.met c.in_ok-right.ensures.met c.in_ok-equate.ensures
