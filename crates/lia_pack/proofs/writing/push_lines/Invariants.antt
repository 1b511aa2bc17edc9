use Rattle.std.proofs.Common.{take}
use Rattle.std.specs.List.{flat_map}
use Rattle.lia_pack.specs.Numbers.{AreWritten}
use Rattle.lia_pack.specs.Tables.{standing_numbers}
use Rattle.lia_pack.proofs.writing.push_lines.Given as goal

abbrev pub invariant-loop-standing : goal.invariant-loop-standing
invariant-loop-standing l = AreWritten l.initial.bytes l.bytes (flat_map standing_numbers (take l.standing-index l.lines))
