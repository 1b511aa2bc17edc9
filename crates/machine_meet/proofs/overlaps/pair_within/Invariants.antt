use Rattle.std.proofs.Common.{take}
use Rattle.machine_meet.proofs.OverlapLemmas.{AreBegun}
use Rattle.machine_meet.proofs.overlaps.pair_within.Given as goal

abbrev pub invariant-loop-outer : goal.invariant-loop-outer
invariant-loop-outer l = AreBegun (take l.outer-index l.around) l.spans l.pairs.items
