use Rattle.std.proofs.Common.{take}
use Rattle.machine_meet.specs.Splits.{IsColumn}
use Rattle.machine_meet.proofs.column.column.Given as goal

abbrev pub invariant-loop-row : goal.invariant-loop-row
invariant-loop-row g l = IsColumn l.place (take l.row-index l.rows) l.column
