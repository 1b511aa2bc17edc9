use Rattle.std.proofs.Common.{◌≡◌, drop}
use Rattle.part_machines.proofs.TableLemmas.{IsLed}
use Rattle.part_machines.proofs.table.add_row.Given as goal

abbrev pub invariant-loop-leg : goal.invariant-loop-leg
invariant-loop-leg l = record {
  states : l.machine.states ≡ l.fn.machine.states;
  registers : l.machine.registers ≡ l.fn.machine.registers;
  ends : l.machine.ends ≡ l.fn.machine.ends;
  led : IsLed l.fn.machine.edges l.machine.edges l.at l.row l.start l.fn.machine.states (drop l.leg-index l.row.legs);
}
