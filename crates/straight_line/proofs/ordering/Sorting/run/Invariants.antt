use Rattle.std.proofs.Common.{◌-◌, [], length}
use Rattle.straight_line.proofs.Sorted.{IsFiled}
use Rattle.straight_line.proofs.ordering.Sorting.run.Given as goal

abbrev pub invariant-loop-first : goal.invariant-loop-first
invariant-loop-first l = IsFiled (length l.fn.self.ahead) l.definitions [] l.self.order l.self.ahead l.self.free.keys l.self.waiters.items

abbrev pub decreases-loop-first : goal.decreases-loop-first
decreases-loop-first l = length l.definitions - length l.self.order
