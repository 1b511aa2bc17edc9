use Rattle.std.proofs.Common.{◌+◌, sym, subst, arith}
use Rattle.sv_linear.specs.Rows.{IsRowWithin}
use Rattle.search_hits.specs.Hits.{HaveRegisters}
use Rattle.parikh_flow.specs.Rows.{IsSystemOf}
use Rattle.leaf_solve.proofs.systems.system.Goals as goal

pub system_of-requires-clause-registers : goal.system_of-requires-clause-registers
system_of-requires-clause-registers c = subst (λ n. HaveRegisters n c.args.question.now.machines.now) (sym c.registers.ensures) c.requires.registers

pub system_of-requires-clause-few : goal.system_of-requires-clause-few
system_of-requires-clause-few c = omega (arith, c.registers.ensures, c.requires.few_registers, c.requires.few_integers)

pub returns-clause-system : goal.returns-clause-system
returns-clause-system c =
    subst (λ n. IsSystemOf c.args.question.now.machines.now c.args.question.now.integers n c.args.question.now.rows.now c.args.reach c.in_ok-system.system) c.registers.ensures c.in_ok-system.ensures.system

pub returns-clause-searchable : goal.returns-clause-searchable
returns-clause-searchable c =
    let is = c.in_ok-system.ensures.system in
    record {
      rows = c.in_ok-system.ensures.within (λ i r e. subst (λ n. IsRowWithin (c.args.question.now.integers + n) r) (sym c.registers.ensures) (c.requires.rows_within i r e));
      nets = c.nets_are_within.ensures c.args.question.now.integers c.registers.result c.args.question.now.rows.now c.args.reach is;
      counts = λ x met. c.systems_count_edges.ensures c.args.question.now.integers c.registers.result c.args.question.now.rows.now c.args.reach x is met;
    }
