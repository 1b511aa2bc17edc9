use Rattle.std.proofs.Common.{◌≡◌, ◌≤◌, drop, length}
use Rattle.box_search.specs.Places.{numbers_below}
use Rattle.box_search.proofs.places.points_of.Given as goal

abbrev pub invariant-loop-at : goal.invariant-loop-at
invariant-loop-at l = record {
  within : l.at ≤ length l.uppers;
  points : l.points ≡ numbers_below (drop l.at l.uppers);
}

abbrev pub decreases-loop-at : goal.decreases-loop-at
decreases-loop-at l = l.at
