use Rattle.std.proofs.Common.{take}
use Rattle.machine_meet.specs.Joins.{AreSums}
use Rattle.machine_meet.proofs.sums.sum_all.Given as goal

abbrev pub invariant-loop-head : goal.invariant-loop-head
invariant-loop-head l = AreSums (take l.head-index l.heads) l.tails l.all
