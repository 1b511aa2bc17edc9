use Rattle.std.proofs.Common.{take}
use Rattle.std.specs.List.{flat_map}
use Rattle.lia_pack.specs.Numbers.{AreWritten}
use Rattle.lia_pack.specs.Tables.{row_numbers}
use Rattle.lia_pack.proofs.writing.push_rows.Given as goal

abbrev pub invariant-loop-row : goal.invariant-loop-row
invariant-loop-row l = AreWritten l.initial.bytes l.bytes (flat_map row_numbers (take l.row-index l.rows))
