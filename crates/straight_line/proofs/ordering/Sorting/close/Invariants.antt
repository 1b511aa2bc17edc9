use Rattle.std.proofs.Common.{◌≡◌, ◌+◌, length, drop}
use Rattle.straight_line.proofs.Sorted.{IsFiled}
use Rattle.straight_line.proofs.ordering.Sorting.close.Given as goal

abbrev pub invariant-loop-waiter : goal.invariant-loop-waiter
invariant-loop-waiter l = (length l.self.order ≡ length l.fn.self.order + 1) × IsFiled (length l.fn.self.ahead) l.definitions (drop l.waiter-index l.waiter-items) l.self.order l.self.ahead l.self.free.keys l.self.waiters.items
