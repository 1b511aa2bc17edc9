use Rattle.std.proofs.Common.{◌≡◌, ◌+◌, ◌≤◌, length}
use Rattle.bool_cubes.specs.Held.{AreMust, IsKnown}
use Rattle.bool_cubes.proofs.known.force.Given as goal

abbrev pub invariant-loop-i : goal.invariant-loop-i
invariant-loop-i l = record {
  bound : l.i ≤ l.root + 1;
  size : length l.must ≡ length l.nodes;
  known : IsKnown l.nodes l.root l.known;
  must : AreMust l.nodes l.root l.must;
}

abbrev pub decreases-loop-i : goal.decreases-loop-i
decreases-loop-i l = l.i
