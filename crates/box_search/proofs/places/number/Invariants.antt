use Rattle.std.proofs.Common.{◌≡◌, ◌≤◌, drop, length}
use Rattle.box_layers.specs.Layers.{AreWithinGreatest}
use Rattle.box_search.specs.Places.{number_of}
use Rattle.box_search.proofs.places.number.Given as goal

abbrev pub invariant-loop-at : goal.invariant-loop-at
invariant-loop-at l = record {
  within : l.at ≤ length l.totals;
  below : AreWithinGreatest (drop l.at l.totals) (drop l.at l.uppers);
  number : l.number ≡ number_of (drop l.at l.totals) (drop l.at l.uppers);
}

abbrev pub decreases-loop-at : goal.decreases-loop-at
decreases-loop-at l = l.at
