use Rattle.std.proofs.Common.{take}
use Rattle.std.specs.List.{AllZip}
use Rattle.straight_line.specs.Columns.{IsRenumberedRow}
use Rattle.straight_line.proofs.renumbering.renumber_all.Given as goal

abbrev pub invariant-loop-row : goal.invariant-loop-row
invariant-loop-row l = AllZip (IsRenumberedRow l.base l.integers l.registers) (take l.row-index l.rows) l.renumbered
