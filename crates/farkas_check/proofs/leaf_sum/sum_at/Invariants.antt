use Rattle.std.proofs.Common.{map}
use Rattle.farkas_check.specs.Systems.{constraint_of}
use Rattle.farkas_check.specs.Columns.{part_at}
use Rattle.farkas_check.proofs.Summing.{IsSumming}
use Rattle.farkas_check.proofs.leaf_sum.sum_at.Given as goal

abbrev pub invariant-loop-row : goal.invariant-loop-row
invariant-loop-row l = IsSumming (part_at l.column) (map constraint_of l.rows) l.multipliers l.sum l.row-index
