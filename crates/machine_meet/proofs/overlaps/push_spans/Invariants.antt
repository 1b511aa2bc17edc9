use Rattle.std.proofs.Common.{◌≡◌, ◌++◌, map, take}
use Rattle.machine_meet.specs.Overlaps.{span}
use Rattle.machine_meet.proofs.overlaps.push_spans.Given as goal

abbrev pub invariant-loop-pair : goal.invariant-loop-pair
invariant-loop-pair l = l.spans.items ≡ l.initial.spans.items ++ map (span l.place) (take l.pair-index l.pair-items)
