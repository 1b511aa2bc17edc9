use Rattle.farkas_check.specs.Leaves.{leaf_rows}
use Rattle.farkas_check.specs.Columns.{part_at}
use Rattle.farkas_check.proofs.Summing.{IsSumming}
use Rattle.farkas_check.proofs.leaf.Leaf.sum.Given as goal

abbrev pub invariant-loop-row : goal.invariant-loop-row
invariant-loop-row l = IsSumming (part_at l.column) (leaf_rows l.self) l.row-items l.sum l.row-index
