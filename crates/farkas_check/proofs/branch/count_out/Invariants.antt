use Rattle.std.proofs.Common.{◌≡◌, ◌≤◌, ◌+ℤ◌, pos, drop}
use Rattle.sv_linear.specs.Terms.{coefficient}
use Rattle.farkas_check.specs.Closings.{edges_out}
use Rattle.farkas_check.proofs.branch.count_out.Given as goal

abbrev pub invariant-loop-edge : goal.invariant-loop-edge
invariant-loop-edge l = (l.count ≤ l.edge-index) × (pos l.count +ℤ coefficient l.unknown (edges_out l.set (drop l.edge-index l.edges) (pos 1)) ≡ coefficient l.unknown (edges_out l.set l.edges (pos 1)))
