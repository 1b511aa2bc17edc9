use Rattle.std.proofs.Common.{ℕ, ◌<◌, get_or}
use Rattle.farkas_check.specs.Cuts.{values_of}
use Rattle.farkas_check.specs.Systems.{Meets, no_constraint, rows_of}
use Rattle.lia_reduce.proofs.filling.meets.Given as goal

abbrev pub invariant-loop-row : goal.invariant-loop-row
invariant-loop-row l = (k : ℕ) → k < l.row-index → Meets (values_of l.point) (get_or (rows_of l.system) k no_constraint)
