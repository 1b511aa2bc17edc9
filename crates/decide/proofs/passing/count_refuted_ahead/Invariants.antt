use Rattle.std.proofs.Common.{◌≤◌, ◌-◌, length}
use Rattle.decide.specs.Passing.{AreKnown}
use Rattle.decide.proofs.passing.count_refuted_ahead.Given as goal

abbrev pub invariant-loop-least : goal.invariant-loop-least
invariant-loop-least l = (l.least ≤ l.most) × (l.most ≤ length l.terms) × AreKnown l.terms l.given l.cubes

abbrev pub decreases-loop-least : goal.decreases-loop-least
decreases-loop-least l = l.most - l.least
