use Rattle.std.proofs.Common.{◌≡◌, ◌++◌, ◌≤◌}
use Rattle.bool_cubes.specs.Nodes.{tree_at}
use Rattle.bool_cubes.specs.Picking.{cube_at}
use Rattle.bool_cubes.proofs.Gathered.{IsNumberIn}
use Rattle.bool_cubes.proofs.cubes.+gather.Given as goal

abbrev pub decreases-gather : goal.decreases-gather
decreases-gather l = l.root

abbrev pub decreases-loop-at : goal.decreases-loop-at
decreases-loop-at l = l.at

abbrev pub invariant-loop-at : goal.invariant-loop-at
invariant-loop-at l = record {
  below : l.at ≤ l.fn.root;
  number : IsNumberIn l.nodes l.at l.left;
  whole : l.literals ++ cube_at (tree_at l.nodes l.at) l.left ≡ l.fn.literals ++ cube_at (tree_at l.nodes l.fn.root) l.fn.number;
}
