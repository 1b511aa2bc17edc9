use Rattle.std.proofs.Common.{ℕ, ◌+◌, ◌-◌, ◌<◌, ◌≤◌}
use Rattle.bool_cubes.specs.Contradictions.{IsContradictory}
use Rattle.bool_cubes.specs.Cubes.{count}
use Rattle.bool_cubes.specs.Nodes.{tree_at}
use Rattle.bool_cubes.specs.Picking.{cube_at}
use Rattle.bool_cubes.proofs.stretch.stretches.Given as goal

abbrev pub invariant-loop-ahead : goal.invariant-loop-ahead
invariant-loop-ahead l = record {
  within : l.number + l.ahead ≤ count (tree_at l.nodes l.root);
  stretch : (d : ℕ) → d < l.ahead → IsContradictory (cube_at (tree_at l.nodes l.root) (l.number + d));
}

abbrev pub decreases-loop-ahead : goal.decreases-loop-ahead
decreases-loop-ahead l = count (tree_at l.nodes l.root) - (l.number + l.ahead)
