use Rattle.std.proofs.Common.{◌≡◌, length}
use Rattle.straight_line.specs.Waiting.{AreFirstMarked}
use Rattle.straight_line.proofs.ordering.mark.Given as goal

abbrev pub invariant-loop-definition : goal.invariant-loop-definition
invariant-loop-definition l = (length l.ahead ≡ l.variables) × AreFirstMarked l.definitions l.definition-index l.ahead
