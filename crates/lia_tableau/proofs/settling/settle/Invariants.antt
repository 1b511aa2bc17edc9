use Rattle.std.proofs.Common.{◌≡◌, ◌+◌, ◌-◌, length}
use Rattle.lia_tableau.specs.Trails.{Trail, trail_length, sets_of}
use Rattle.lia_tableau.proofs.settling.settle.Given as goal

abbrev pub invariant-pivots : goal.invariant-pivots
invariant-pivots l = record {
  trail : Trail l.initial.tableau l.tableau;
  count : l.tableau.pivots ≡ l.initial.tableau.pivots + trail_length l.initial.tableau l.tableau trail;
}

abbrev pub decreases-pivots : goal.decreases-pivots
decreases-pivots l = (l.initial.tableau.pivots + sets_of (length l.initial.tableau.lines)) - l.tableau.pivots
