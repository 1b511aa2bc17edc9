use Rattle.std.proofs.Common.{take}
use Rattle.total_marks.specs.Marks.{EndsPass}
use Rattle.total_marks.proofs.covering.ends_pass.Given as goal

abbrev pub invariant-loop-end : goal.invariant-loop-end
invariant-loop-end l = EndsPass l.marks.words l.marks.width l.base l.next (take l.end-index l.ends)
