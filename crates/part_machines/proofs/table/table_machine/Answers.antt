use Rattle.std.proofs.Common.{arith}
use Rattle.part_machines.proofs.TableLemmas.{made-end, made-none, made-turn}
use Rattle.part_machines.proofs.table.table_machine.Goals as goal

pub loop-at-init : goal.loop-at-init
loop-at-init c = record {
  states = c.in_ok-machine.ensures.states;
  registers = c.in_ok-machine.ensures.registers;
  made = made-none c.args.rows.now c.args.last c.args.holds c.args.states c.in_ok-machine.machine.edges c.in_ok-machine.machine.ends c.in_ok-machine.ensures.edges c.in_ok-machine.ensures.ends;
}

pub loop-at-preserved : goal.loop-at-preserved
loop-at-preserved c =
    let lt = c.loop-at-test.true in
    let enough = c.requires.rows in
    record {
      states = (let x = c.add_row.ensures.states in let y = c.add_end.ensures.states in let z = c.loop-at.invariant.states in omega (arith, x, y, z));
      registers = (let x = c.add_row.ensures.registers in let y = c.add_end.ensures.registers in let z = c.loop-at.invariant.registers in omega (arith, x, y, z));
      made = made-turn c.args.rows.now c.args.last c.args.holds c.loop-at.at c.args.states c.index-rows-at.result c.loop-at.machine c.add_row.new.machine c.add_end.new.machine (omega (arith, lt, enough)) c.index-rows-at.is
          c.loop-at.invariant.states c.loop-at.invariant.made c.in_ok-add_row.ensures.steps c.in_ok-add_row.ensures.ends c.in_ok-add_end.ensures.edges c.in_ok-add_end.ensures.ends;
    }

pub returns-clause-table : goal.returns-clause-table
returns-clause-table c = made-end c.args.rows.now c.args.last c.args.holds c.loop-at.at c.args.states c.loop-at.machine c.loop-at.invariant.registers c.loop-at.invariant.states c.loop-at-test.false c.loop-at.auto.at-end c.loop-at.invariant.made
