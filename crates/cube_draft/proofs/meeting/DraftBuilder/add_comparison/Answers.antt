use Rattle.cube_draft.proofs.Stated.{comparable, row_added, row_left_not, row_right_not}
use Rattle.cube_draft.proofs.meeting.DraftBuilder.add_comparison.Goals as goal

pub compare-requires : goal.compare-requires
compare-requires c =
    comparable c.args.self.now c.count.new.self c.count-2.new.self c.args.op c.args.left.now c.args.right.now c.args.positive c.is_linear.result c.is_linear-2.result c.is_linear.ensures c.if-not-is_linear.false c.is_linear-2.ensures c.if-not-is_linear-2.false c.requires.gathered
    c.in_ok-count.ensures c.in_ok-count-2.ensures c.requires.fitting

pub returns-then-not-is_linear : goal.returns-then-not-is_linear
returns-then-not-is_linear c = row_left_not c.args.self.now c.args.op c.args.left.now c.args.right.now c.args.positive c.is_linear.result c.is_linear.ensures c.if-not-is_linear.true

pub returns-then-not-is_linear-2 : goal.returns-then-not-is_linear-2
returns-then-not-is_linear-2 c = row_right_not c.args.self.now c.args.op c.args.left.now c.args.right.now c.args.positive c.is_linear-2.result c.is_linear-2.ensures c.if-not-is_linear-2.true

pub returns : goal.returns
returns c =
    row_added c.args.self.now c.count.new.self c.count-2.new.self c.compare.new.self c.args.op c.args.left.now c.args.right.now c.args.positive c.is_linear.result c.is_linear-2.result c.is_linear.ensures c.if-not-is_linear.false
    c.is_linear-2.ensures c.if-not-is_linear-2.false c.in_ok-count.ensures c.in_ok-count-2.ensures c.in_ok-compare.ensures
