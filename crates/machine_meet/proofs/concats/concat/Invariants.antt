use Rattle.std.proofs.Common.{take}
use Rattle.machine_meet.specs.Builds.{AddsPart}
use Rattle.machine_meet.proofs.concats.concat.Given as goal

abbrev pub invariant-loop-end : goal.invariant-loop-end
invariant-loop-end l = AddsPart l.initial.whole l.whole l.b (take l.end-index l.a.ends) l.first
