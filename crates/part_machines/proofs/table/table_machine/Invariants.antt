use Rattle.std.proofs.Common.{◌≡◌}
use Rattle.part_machines.proofs.TableLemmas.{AreMade}
use Rattle.part_machines.proofs.table.table_machine.Given as goal

abbrev pub invariant-loop-at : goal.invariant-loop-at
invariant-loop-at l = record {
  states : l.machine.states ≡ l.states;
  registers : l.machine.registers ≡ 0;
  made : AreMade l.rows l.last l.holds l.at l.states l.machine.edges l.machine.ends;
}
