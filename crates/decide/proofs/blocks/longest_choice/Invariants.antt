use Rattle.std.proofs.Common.{◌+◌, ◌<◌, ◌≤◌, ◌-◌, length}
use Rattle.decide.specs.Passing.{GoesOn}
use Rattle.decide.proofs.blocks.longest_choice.Given as goal

abbrev pub invariant-loop-least : goal.invariant-loop-least
invariant-loop-least l = record {
  order : l.least ≤ l.most;
  within : l.most ≤ length l.terms;
  some : 0 < l.least → GoesOn l.terms l.given l.least;
  more : l.most < length l.terms → GoesOn l.terms l.given (l.most + 1) → ⊥;
}

abbrev pub decreases-loop-least : goal.decreases-loop-least
decreases-loop-least l = l.most - l.least
