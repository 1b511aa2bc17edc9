use Rattle.std.proofs.Common.{◌≡◌, length, take}
use Rattle.lia_branch.specs.EdgeSums.{AreSetMarks}
use Rattle.lia_branch.proofs.edge_sums.marks_of.Given as goal

abbrev pub invariant-loop-state : goal.invariant-loop-state
invariant-loop-state l = (length l.marks.items ≡ l.states) × AreSetMarks l.states (take l.state-index l.set) l.marks.items
