use Rattle.std.proofs.Common.{take}
use Rattle.pre_image.specs.Lifts.{IsRest}
use Rattle.pre_image.proofs.ways.subtract.Given as goal

abbrev pub invariant-loop-i : goal.invariant-loop-i
invariant-loop-i l = IsRest (take l.i l.whole) (take l.i l.part) l.rest
