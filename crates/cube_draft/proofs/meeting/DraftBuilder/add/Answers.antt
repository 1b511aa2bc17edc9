use Rattle.cube_draft.proofs.Stated.{applied_fits}
use Rattle.cube_draft.proofs.meeting.DraftBuilder.add.Goals as goal

pub add_applied-requires-clause-fitting : goal.add_applied-requires-clause-fitting
add_applied-requires-clause-fitting c = applied_fits c.args.literal.now c.in-Apply.op c.in-Apply.terms c.as_slice.result.now c.requires.fitting c.in-Apply.is c.as_slice.ensures
