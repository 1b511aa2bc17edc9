use Rattle.subset_machine.proofs.MarkLemmas.{IsCutting}
use Rattle.subset_machine.proofs.marks.cut.Given as goal

abbrev pub invariant-loop-border : goal.invariant-loop-border
invariant-loop-border l = IsCutting l.border-items l.border-index l.from l.marks.items
