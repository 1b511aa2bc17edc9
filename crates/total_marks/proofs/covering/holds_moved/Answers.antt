use Rattle.total_marks.proofs.MarkLemmas.{held-moved}
use Rattle.total_marks.proofs.covering.holds_moved.Goals as goal

pub returns : goal.returns
returns c = λ all. held-moved c.args.words.now c.args.at c.args.word c.args.by c.requires.by (c.holds.ensures c.if-not-holds.false) (c.holds-2.ensures all)
