use Rattle.std.proofs.Common.{drop, take}
use Rattle.regex_machine.specs.OtherSides.{AreOtherSides}
use Rattle.regex_machine.proofs.joining.outsides.Given as goal

abbrev pub invariant-loop-number : goal.invariant-loop-number
invariant-loop-number l = AreOtherSides (drop 1 (take l.number l.parts)) l.sides
