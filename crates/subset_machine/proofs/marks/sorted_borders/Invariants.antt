use Rattle.std.proofs.Common.{take}
use Rattle.subset_machine.proofs.MarkLemmas.{AreListed}
use Rattle.subset_machine.proofs.marks.sorted_borders.Given as goal

abbrev pub invariant-loop-leg : goal.invariant-loop-leg
invariant-loop-leg l = AreListed (take l.leg-index l.legs) l.borders.items
