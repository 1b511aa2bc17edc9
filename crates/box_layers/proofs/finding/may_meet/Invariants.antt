use Rattle.std.proofs.Common.{◌<◌, ℕ, ℤ, List, All, get_or}
use Rattle.sv_linear.specs.Rows.{MeetsRow}
use Rattle.sv_linear.specs.declared.row.Row.{Row}
use Rattle.search_hits.specs.Regions.{AreWithin}
use Rattle.search_hits.specs.Boxes.{HoldsOne, value_at}
use Rattle.box_layers.proofs.finding.may_meet.Given as goal

abbrev pub invariant-loop-row : goal.invariant-loop-row
invariant-loop-row l = All HoldsOne l.sides → (xs : List ℤ) → AreWithin l.sides xs → (k : ℕ) (d : Row) → k < l.row-index → MeetsRow (value_at xs) (get_or l.rows k d)
