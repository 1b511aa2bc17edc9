use Rattle.machine_meet.proofs.OverlapLemmas.{HasSpans}
use Rattle.machine_meet.proofs.overlaps.spans_of.Given as goal

abbrev pub invariant-loop-place : goal.invariant-loop-place
invariant-loop-place g l = HasSpans l.moves l.place l.spans.items
