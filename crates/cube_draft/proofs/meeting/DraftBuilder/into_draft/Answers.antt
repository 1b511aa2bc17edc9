use Rattle.cube_draft.proofs.Gathering.{holds_of}
use Rattle.cube_draft.proofs.meeting.DraftBuilder.into_draft.Goals as goal

pub returns : goal.returns
returns c = λ d g. holds_of c.args.self d c.in_ok-truths.truths c.in_ok-truths.ensures g
