use Rattle.straight_line.proofs.Marks.{AreColumns}
use Rattle.straight_line.proofs.columns.columns_of.Given as goal

abbrev pub invariant-loop-row : goal.invariant-loop-row
invariant-loop-row l = AreColumns l.unknowns l.rows l.row-index l.used
