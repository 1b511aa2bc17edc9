use Rattle.std.proofs.Common.{◌≡◌, ◌+◌, drop, get_or}
use Rattle.backward.specs.PiecesBack.{met_at}
use Rattle.backward.proofs.cut_lifting.machine_before.Given as goal

-- no piece behind this one and before the later one is the same
abbrev pub invariant-loop-later : goal.invariant-loop-later
invariant-loop-later l = met_at (get_or l.cut.pieces.now l.place 0) (drop (l.place + 1) l.cut.pieces.now) l.cut.meetings.now ≡ met_at (get_or l.cut.pieces.now l.place 0) (drop l.later l.cut.pieces.now) l.cut.meetings.now
