use Rattle.cube_draft.proofs.Stated.{part_added, part_not}
use Rattle.cube_draft.proofs.meeting.DraftBuilder.add_part.Goals as goal

pub returns-then-not-is_string : goal.returns-then-not-is_string
returns-then-not-is_string c = part_not c.args.self.now c.args.term.now c.args.own c.args.positive c.is_string.result c.is_string.ensures c.if-not-is_string.true

pub returns : goal.returns
returns c =
    part_added c.args.self.now c.place.new.self c.say.new.self c.args.term.now c.args.own c.args.positive c.is_string.result c.in_ok-place.place c.is_string.ensures c.if-not-is_string.false
    c.in_ok-place.ensures.met c.in_ok-say.ensures
