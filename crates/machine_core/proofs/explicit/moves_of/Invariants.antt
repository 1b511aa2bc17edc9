use Rattle.std.proofs.Common.{◌≡◌, map, take}
use Rattle.machine_core.specs.Places.{pick}
use Rattle.machine_core.specs.Edges.{move_of}
use Rattle.machine_core.proofs.explicit.moves_of.Given as goal

abbrev pub invariant-loop-place : goal.invariant-loop-place
invariant-loop-place l = l.moves ≡ map move_of (pick l.edges (take l.place-index l.places))
