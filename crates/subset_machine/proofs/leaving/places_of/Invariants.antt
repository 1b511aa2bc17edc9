use Rattle.std.proofs.Common.{◌≡◌, take}
use Rattle.subset_machine.specs.Legs.{places_from_some}
use Rattle.subset_machine.proofs.leaving.places_of.Given as goal

abbrev pub invariant-loop-s : goal.invariant-loop-s
invariant-loop-s l = l.places.items ≡ places_from_some l.machine.edges (take l.s-index l.list)
