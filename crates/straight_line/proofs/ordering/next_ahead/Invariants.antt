use Rattle.std.proofs.Common.{ℕ, ◌<◌, ◌≤◌, get_or}
use Rattle.straight_line.specs.Waiting.{IsAhead}
use Rattle.straight_line.proofs.ordering.next_ahead.Given as goal

abbrev pub invariant-loop-i : goal.invariant-loop-i
invariant-loop-i l = (k : ℕ) → l.from ≤ k → k < l.i → IsAhead l.ahead (get_or l.used k 0) → ⊥
