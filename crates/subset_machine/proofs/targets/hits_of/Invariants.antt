use Rattle.std.proofs.Common.{take}
use Rattle.subset_machine.proofs.HitLemmas.{HitsOf}
use Rattle.subset_machine.proofs.targets.hits_of.Given as goal

abbrev pub invariant-loop-leg : goal.invariant-loop-leg
invariant-loop-leg l = HitsOf (take l.leg-index l.legs) l.marks l.hits.items
