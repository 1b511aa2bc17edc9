use Rattle.std.proofs.Common.{◌-◌, length}
use Rattle.straight_line.specs.Waiting.{waiters_from}
use Rattle.straight_line.proofs.Sorted.{IsFiled}
use Rattle.straight_line.proofs.ordering.Sorting.file_all.Given as goal

abbrev pub invariant-loop-definition : goal.invariant-loop-definition
invariant-loop-definition l = IsFiled (length l.fn.self.ahead) l.definitions (waiters_from l.definition (length l.definitions - l.definition)) l.self.order l.self.ahead l.self.free.keys l.self.waiters.items
