use Rattle.std.proofs.Common.{◌≤◌}
use Rattle.bool_cubes.proofs.Gathered.{IsNumberIn}
use Rattle.bool_cubes.proofs.Leading.{IsScanned}
use Rattle.bool_cubes.proofs.stretch.+scan.Given as goal

abbrev pub decreases-scan : goal.decreases-scan
decreases-scan l = l.root

abbrev pub decreases-loop-node : goal.decreases-loop-node
decreases-loop-node l = l.at

abbrev pub invariant-loop-node : goal.invariant-loop-node
invariant-loop-node l = record {
  below : l.at ≤ l.fn.root;
  number : IsNumberIn l.nodes l.at l.left;
  scanned : IsScanned l.nodes l.fn.root l.fn.number l.at l.left l.fn.marks l.marks;
}
