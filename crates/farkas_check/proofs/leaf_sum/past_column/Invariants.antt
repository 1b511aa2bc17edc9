use Rattle.std.proofs.Common.{ℕ, ◌<◌, pos, map}
use Rattle.sv_linear.specs.declared.column.Column.TheVariants.{Unknown}
use Rattle.farkas_check.specs.Systems.{constraint_of}
use Rattle.farkas_check.specs.Columns.{part_at}
use Rattle.farkas_check.specs.Fitting.{SumFits}
use Rattle.farkas_check.proofs.leaf_sum.past_column.Given as goal

abbrev pub invariant-loop-unknown : goal.invariant-loop-unknown
invariant-loop-unknown l = (u : ℕ) → u < l.unknown → SumFits (part_at (Unknown u)) (map constraint_of l.rows) (pos 0) l.multipliers
