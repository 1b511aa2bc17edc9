use Rattle.std.proofs.Common.{take}
use Rattle.machine_meet.specs.Splits.{AreOptions, as_step}
use Rattle.machine_meet.proofs.options.end_options.Given as goal

abbrev pub invariant-loop-i : goal.invariant-loop-i
invariant-loop-i g l = AreOptions (as_step g.P.Machine.ends_with) (take l.i l.parts) l.at 0 l.at l.options
