use Rattle.std.proofs.Common.{◌≡◌, ◌≤◌, ◌+ℤ◌, pos, negsuc, drop}
use Rattle.sv_linear.specs.Terms.{coefficient}
use Rattle.farkas_check.specs.Closings.{edges_in}
use Rattle.farkas_check.proofs.branch.count_in.Given as goal

abbrev pub invariant-loop-edge : goal.invariant-loop-edge
invariant-loop-edge l = (l.count ≤ l.edge-index) × (coefficient l.unknown (edges_in l.set (drop l.edge-index l.edges) (negsuc 0)) ≡ pos l.count +ℤ coefficient l.unknown (edges_in l.set l.edges (negsuc 0)))
