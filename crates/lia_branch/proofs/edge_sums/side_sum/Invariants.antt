use Rattle.lia_branch.proofs.EdgeRows.{IsSummed}
use Rattle.lia_branch.proofs.edge_sums.side_sum.Given as goal

abbrev pub invariant-loop-edge : goal.invariant-loop-edge
invariant-loop-edge l = IsSummed l.side l.set l.net.edges l.sum l.next l.edge-index
