use Rattle.std.proofs.Common.{◌≡◌, ◌++◌, map, take}
use Rattle.machine_meet.proofs.OverlapLemmas.{with_place}
use Rattle.machine_meet.proofs.overlaps.push_pairs.Given as goal

abbrev pub invariant-loop-inner : goal.invariant-loop-inner
invariant-loop-inner l = l.pairs.items ≡ l.initial.pairs.items ++ map (with_place l.place) (take l.inner-index l.spans)
