use Rattle.std.proofs.Common.{◌≡◌, ◌++◌, map, take}
use Rattle.subset_machine.proofs.HitLemmas.{hit}
use Rattle.subset_machine.proofs.targets.push_hits.Given as goal

abbrev pub invariant-loop-mark : goal.invariant-loop-mark
invariant-loop-mark l = l.hits.items ≡ l.initial.hits.items ++ map (hit l.leg.to) (take l.mark-index l.marks)
