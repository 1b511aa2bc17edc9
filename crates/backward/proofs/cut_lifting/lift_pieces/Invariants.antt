use Rattle.backward.specs.Families.{without}
use Rattle.backward.specs.PiecesBack.{AreTakenBack}
use Rattle.backward.specs.Runs.{Runs}
use Rattle.backward.proofs.cut_lifting.lift_pieces.Given as goal

abbrev pub invariant-loop-place : goal.invariant-loop-place
invariant-loop-place l = record {
  some : (old : Runs) × AreTakenBack l.cut.target.now (without l.cut.machines.now l.cut.x) l.cut.cuts.now l.cut.pieces.now l.cut.meetings.now old l.place l.taken.runs l.taken.whole;
  each : (old : Runs) → AreTakenBack l.cut.target.now (without l.cut.machines.now l.cut.x) l.cut.cuts.now l.cut.pieces.now l.cut.meetings.now old 0 l.fn.first.runs l.fn.first.whole
      → AreTakenBack l.cut.target.now (without l.cut.machines.now l.cut.x) l.cut.cuts.now l.cut.pieces.now l.cut.meetings.now old l.place l.taken.runs l.taken.whole;
}
