use Rattle.std.proofs.Common.{◌≡◌, take}
use Rattle.machine_core.specs.Costs.{zeros}
use Rattle.machine_meet.proofs.pick.pick_none.Given as goal

abbrev pub invariant-loop-entry : goal.invariant-loop-entry
invariant-loop-entry l = take l.entry-index l.want ≡ zeros l.entry-index
