use Rattle.std.proofs.Common.{◌≡◌, take, map}
use Rattle.machine_meet.proofs.meet.MeetMachine.start.Given as goal

abbrev pub invariant-loop-part : goal.invariant-loop-part
invariant-loop-part g l = l.first ≡ map g.P.Machine.first (take l.part-index l.part-items)
