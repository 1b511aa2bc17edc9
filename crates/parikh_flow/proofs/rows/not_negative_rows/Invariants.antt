use Rattle.std.proofs.Common.{◌-◌, map}
use Rattle.std.specs.List.{range_with_len}
use Rattle.parikh_flow.specs.Rows.{not_negative_row, AreSameRows}
use Rattle.parikh_flow.proofs.rows.not_negative_rows.Given as goal

abbrev pub invariant-loop-unknown : goal.invariant-loop-unknown
invariant-loop-unknown l = AreSameRows l.rows (map not_negative_row (range_with_len l.from (l.unknown - l.from)))
