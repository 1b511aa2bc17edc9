use Rattle.std.proofs.Common.{length, ◌+◌}
use Rattle.sv_linear.proofs.Merging.{IsMerging}
use Rattle.sv_linear.proofs.terms.merge.Given as goal

abbrev pub invariant-loop-unknown : goal.invariant-loop-unknown
invariant-loop-unknown l = IsMerging l.least l.p l.a l.q l.b l.sums.items l.left l.right

abbrev pub decreases-loop-unknown : goal.decreases-loop-unknown
decreases-loop-unknown l = length l.left + length l.right
