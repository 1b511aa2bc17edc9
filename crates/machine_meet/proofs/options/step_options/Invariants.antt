use Rattle.std.proofs.Common.{take}
use Rattle.machine_meet.specs.Splits.{AreOptions}
use Rattle.machine_meet.proofs.options.step_options.Given as goal

abbrev pub invariant-loop-i : goal.invariant-loop-i
invariant-loop-i g l = AreOptions g.P.Machine.steps_to (take l.i l.parts) l.from l.c l.to l.options
