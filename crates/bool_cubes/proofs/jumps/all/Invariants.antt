use Rattle.std.proofs.Common.{◌≡◌, length}
use Rattle.bool_cubes.specs.Jumps.{AreJumps}
use Rattle.bool_cubes.proofs.jumps.all.Given as goal

abbrev pub invariant-loop-at : goal.invariant-loop-at
invariant-loop-at l = record {
  size : length l.jumps ≡ l.at;
  jumps : AreJumps l.nodes l.jumps;
}
