use Rattle.std.proofs.Common.{take}
use Rattle.cube_draft.specs.Gathered.{AreCounted}
use Rattle.cube_draft.proofs.Forms.{seen_all}
use Rattle.cube_draft.proofs.meeting.DraftBuilder.+unknowns.Given as goal

abbrev pub invariant-count_all-loop-i : goal.invariant-count_all-loop-i
invariant-count_all-loop-i l = AreCounted l.fn.self l.self (seen_all (take l.i l.terms))
