use Rattle.straight_line.proofs.Ranked.{IsRanked}
use Rattle.straight_line.proofs.numbering.number.Given as goal

abbrev pub invariant-loop-i : goal.invariant-loop-i
invariant-loop-i l = IsRanked l.firsts l.i l.numbering.of.items l.numbering.count
