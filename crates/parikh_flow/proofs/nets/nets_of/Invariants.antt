use Rattle.std.proofs.Common.{◌≡◌, take}
use Rattle.parikh_flow.specs.Nets.{nets_of}
use Rattle.parikh_flow.specs.Rows.{unknowns_after}
use Rattle.parikh_flow.proofs.nets.nets_of.Given as goal

abbrev pub invariant-loop-machine : goal.invariant-loop-machine
invariant-loop-machine l = record {
  next : l.next ≡ unknowns_after l.base (take l.machine-index l.machines);
  nets : l.nets ≡ nets_of l.base (take l.machine-index l.machines);
}
