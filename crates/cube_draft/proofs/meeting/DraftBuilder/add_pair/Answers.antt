use Rattle.cube_draft.proofs.Stated.{pair_added}
use Rattle.cube_draft.proofs.meeting.DraftBuilder.add_pair.Goals as goal

pub returns : goal.returns
returns c =
    pair_added c.args.self.now c.place.new.self c.place-2.new.self c.define.new.self c.args.transducer.now c.in_ok-copy.field-0 c.args.read.now c.args.written.now c.args.positive c.is_string.result c.is_string-2.result c.in_ok-read.read c.in_ok-written.written c.if-not-positive.false
    c.is_string.ensures c.if-not-is_string.false c.is_string-2.ensures c.if-not-is_string-2.false c.in_ok-read.ensures.met c.in_ok-written.ensures.met c.in_ok-copy.ensures c.in_ok-define.ensures
