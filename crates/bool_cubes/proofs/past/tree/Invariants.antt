use Rattle.std.proofs.Common.{◌+◌, ◌≤◌}
use Rattle.bool_cubes.specs.Marked.{IsWalked}
use Rattle.bool_cubes.proofs.past.tree.Given as goal

abbrev pub invariant-loop-i : goal.invariant-loop-i
invariant-loop-i l = record {
  bound : l.i ≤ l.root + 1;
  walked : IsWalked l.nodes l.root l.marks l.i;
}

abbrev pub decreases-loop-i : goal.decreases-loop-i
decreases-loop-i l = l.i
