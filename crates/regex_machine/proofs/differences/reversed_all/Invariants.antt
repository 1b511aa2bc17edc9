use Rattle.std.proofs.Common.{take}
use Rattle.regex_machine.specs.Reversed.{AreReversed}
use Rattle.regex_machine.proofs.differences.reversed_all.Given as goal

abbrev pub invariant-loop-part : goal.invariant-loop-part
invariant-loop-part l = AreReversed (take l.part-index l.parts) l.turned
