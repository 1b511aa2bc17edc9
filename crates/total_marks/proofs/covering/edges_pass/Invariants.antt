use Rattle.std.proofs.Common.{take}
use Rattle.total_marks.specs.Marks.{EdgesPass}
use Rattle.total_marks.proofs.covering.edges_pass.Given as goal

abbrev pub invariant-loop-edge : goal.invariant-loop-edge
invariant-loop-edge l = EdgesPass l.marks.words l.marks.width l.base (take l.edge-index l.edges)
