use Rattle.std.proofs.Common.{◌≡◌, map, Some}
use Rattle.straight_line.proofs.arranging.slots.Given as goal

abbrev pub invariant-loop-definition : goal.invariant-loop-definition
invariant-loop-definition l = l.slots.items ≡ map Some l.yielded
