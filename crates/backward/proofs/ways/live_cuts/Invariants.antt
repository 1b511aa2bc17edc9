use Rattle.std.proofs.Common.{◌≡◌, ℕ, ◌≤◌, List, length, drop}
use Rattle.backward.specs.Ways.{AreLive}
use Rattle.backward.proofs.WayLemmas.{HaveGoals}
use Rattle.backward.proofs.ways.live_cuts.Given as goal

-- the rows are those of the pieces from this one on
abbrev pub invariant-loop-left : goal.invariant-loop-left
invariant-loop-left l = record {
  within : l.left ≤ length l.pieces;
  goals : HaveGoals l.state.machines l.target (drop l.left l.pieces) l.goals;
  live : AreLive l.state.machines l.target (drop l.left l.pieces) l.rows;
}

abbrev pub decreases-loop-left : goal.decreases-loop-left
decreases-loop-left l = l.left
