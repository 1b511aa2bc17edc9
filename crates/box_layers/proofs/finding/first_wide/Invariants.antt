use Rattle.std.proofs.Common.{◌<◌, ◌-◌, ℕ, ℤ, length, get_or}
use Rattle.search_hits.specs.Boxes.{HoldsOne}
use Rattle.box_layers.proofs.finding.first_wide.Given as goal

abbrev pub invariant-loop-at : goal.invariant-loop-at
invariant-loop-at l = (k : ℕ) (d : ℤ × ℤ) → k < l.at → HoldsOne (get_or l.sides k d)

abbrev pub decreases-loop-at : goal.decreases-loop-at
decreases-loop-at l = length l.sides - l.at
