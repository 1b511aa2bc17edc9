use Rattle.std.proofs.Common.{◌≡◌, length, map}
use Rattle.farkas_check.specs.Systems.{constraint_of}
use Rattle.farkas_check.proofs.LeafSums.{IsSummingAll}
use Rattle.farkas_check.proofs.leaf_sum.sum_of.Given as goal

abbrev pub invariant-loop-row : goal.invariant-loop-row
invariant-loop-row l = record {
  all : IsSummingAll (map constraint_of l.rows) l.multipliers l.sum l.row-index;
  size : length l.sum.numbers ≡ l.unknowns;
}
