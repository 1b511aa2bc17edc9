use Rattle.std.specs.Prelude.{◌-◌, ◌≤◌, length}
use Rattle.decide.proofs.crooked.first_crooked.Given as goal

abbrev pub invariant-loop-high : goal.invariant-loop-high
invariant-loop-high l = (l.low ≤ l.high) × (l.high ≤ length l.literals)

abbrev pub decreases-loop-high : goal.decreases-loop-high
decreases-loop-high l = l.high - l.low
