use Rattle.std.proofs.Common.{take}
use Rattle.machine_meet.specs.Joins.{AddsSums}
use Rattle.machine_meet.proofs.sums.sum_each.Given as goal

abbrev pub invariant-loop-tail : goal.invariant-loop-tail
invariant-loop-tail l = AddsSums l.head (take l.tail-index l.tails) l.initial.all l.all
