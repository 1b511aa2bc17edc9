use Rattle.std.proofs.Common.{◌≡◌, ◌++◌, map, take}
use Rattle.machine_meet.proofs.OverlapLemmas.{swapped}
use Rattle.machine_meet.proofs.overlaps.push_turned.Given as goal

abbrev pub invariant-loop-second : goal.invariant-loop-second
invariant-loop-second l = l.pairs.items ≡ l.initial.pairs.items ++ map swapped (take l.second-index l.more)
