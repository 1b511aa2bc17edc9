use Rattle.std.proofs.Common.{◌≡◌, take}
use Rattle.parikh_flow.specs.Rows.{unknowns_after}
use Rattle.parikh_flow.proofs.sizes.unknowns_from.Given as goal

abbrev pub invariant-loop-machine : goal.invariant-loop-machine
invariant-loop-machine l = l.next ≡ unknowns_after l.base (take l.machine-index l.machines)
