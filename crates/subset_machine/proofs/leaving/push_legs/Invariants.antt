use Rattle.std.proofs.Common.{◌≡◌, ◌++◌, map, take}
use Rattle.subset_machine.specs.Legs.{leg}
use Rattle.subset_machine.proofs.leaving.push_legs.Given as goal

abbrev pub invariant-loop-pair : goal.invariant-loop-pair
invariant-loop-pair l = l.legs.items ≡ l.initial.legs.items ++ map (leg l.edge.to) (take l.pair-index l.pair-items)
