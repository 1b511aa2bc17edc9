use Rattle.std.proofs.Common.{◌/◌, ◌%◌, refl}
use Rattle.total_marks.proofs.MarkLemmas.{held-more, held-all}
use Rattle.total_marks.proofs.covering.covers.Goals as goal

pub loop-at-preserved : goal.loop-at-preserved
loop-at-preserved c = held-more c.args.from.now c.args.to.now (c.args.cost / 64) (c.args.cost % 64) c.loop-at.at c.loop-at.invariant (c.holds_moved.ensures c.if-not-holds_moved.false)

pub returns : goal.returns
returns c = λ all. held-all c.args.from.now c.args.to.now (c.args.cost / 64) (c.args.cost % 64) c.loop-at.at c.args.cost c.loop-at-test.false refl refl c.loop-at.invariant
