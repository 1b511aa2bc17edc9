use Rattle.literal_forms.specs.Shapes.{seen}
use Rattle.cube_draft.proofs.Stated.{order_row_fits}
use Rattle.cube_draft.proofs.meeting.DraftBuilder.add_double.Goals as goal

pub add_comparison-requires-clause-fitting : goal.add_comparison-requires-clause-fitting
add_comparison-requires-clause-fitting c = order_row_fits c.args.op c.head_of.result (seen c.args.left.now) (seen c.args.right.now) c.args.positive c.head_of.ensures c.in-Order.is c.requires.fitting
