use Rattle.std.proofs.Common.{take}
use Rattle.lia_tableau.specs.Verdicts.{AreVerdicts}
use Rattle.lia_tableau.proofs.verdict.verdicts_of.Given as goal

abbrev pub invariant-loop-quantity : goal.invariant-loop-quantity
invariant-loop-quantity l = AreVerdicts l.unknowns l.rows (take l.quantity l.lines) l.verdicts
