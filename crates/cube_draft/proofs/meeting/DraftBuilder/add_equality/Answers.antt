use Rattle.literal_forms.specs.Shapes.{seen}
use Rattle.cube_draft.proofs.Stated.{equal_numbers_fit}
use Rattle.cube_draft.proofs.meeting.DraftBuilder.add_equality.Goals as goal

pub add_comparison-requires-clause-fitting : goal.add_comparison-requires-clause-fitting
add_comparison-requires-clause-fitting c = equal_numbers_fit (seen c.args.left.now) (seen c.args.right.now) c.head_sort.result c.head_sort.ensures c.in-Int.is c.requires.fitting
