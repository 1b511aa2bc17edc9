use Rattle.std.proofs.Common.{◌≡◌, take}
use Rattle.parikh_flow.specs.Rows.{unknowns_after, family_rows, AreSameRows}
use Rattle.parikh_flow.proofs.rows.family_rows.Given as goal

abbrev pub invariant-loop-machine : goal.invariant-loop-machine
invariant-loop-machine l = record {
  next : l.next ≡ unknowns_after l.base (take l.machine-index l.machines);
  rows : AreSameRows l.rows (family_rows l.base (take l.machine-index l.machines));
}
