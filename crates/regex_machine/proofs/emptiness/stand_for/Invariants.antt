use Rattle.std.proofs.Common.{take}
use Rattle.regex_machine.specs.Antichains.{StandFor}
use Rattle.regex_machine.proofs.emptiness.stand_for.Given as goal

abbrev pub invariant-loop-at : goal.invariant-loop-at
invariant-loop-at l = StandFor (take l.at l.sides) (take l.at l.place) (take l.at l.other)
