use Rattle.std.proofs.Common.{◌≡◌, take, Contains}
use Rattle.std.specs.List.{flat_map}
use Rattle.machine_core.specs.Places.{pick}
use Rattle.subset_machine.specs.declared.leaving.EdgeRange.{EdgeRange}
use Rattle.subset_machine.specs.Legs.{IsRange, legs_of}
use Rattle.subset_machine.proofs.leaving.take_apart.Given as goal

abbrev pub invariant-loop-place : goal.invariant-loop-place
invariant-loop-place l = record {
  legs : l.legs.items ≡ flat_map legs_of (pick l.edges (take l.place-index l.places));
  ranges : (s : EdgeRange) → Contains l.legs.items s → IsRange s;
}
