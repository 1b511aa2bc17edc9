use Rattle.std.proofs.Common.{◌<◌, refl, sym, ◌∙◌, subst}
use Rattle.part_machines.specs.Tables.{leg}
use Rattle.part_machines.proofs.TableLemmas.{led-end, led-first, led-loop}
use Rattle.part_machines.proofs.table.add_row.Goals as goal

pub loop-leg-preserved : goal.loop-leg-preserved
loop-leg-preserved c = record {
  states = c.in_ok-add_leg.ensures.states ∙ c.loop-leg.invariant.states;
  registers = c.in_ok-add_leg.ensures.registers ∙ c.loop-leg.invariant.registers;
  ends = c.in_ok-add_leg.ensures.ends ∙ c.loop-leg.invariant.ends;
  led = led-loop c.args.machine.now.edges c.loop-leg.machine c.add_leg.new.machine c.args.at c.args.row.now c.loop-leg.start c.args.machine.now.states c.loop-leg.leg-index c.max-start.result c.as_slice-leg-items.result.now (leg 0 0)
      c.as_slice-leg-items.ensures c.loop-leg-test.true c.loop-leg.invariant.states c.max-start.ensures c.requires.row c.loop-leg.invariant.led c.in_ok-add_leg.ensures.steps;
}

pub returns-clause-steps : goal.returns-clause-steps
returns-clause-steps c =
    led-end c.args.machine.now.edges c.loop-leg.machine c.add_leg-2.new.machine c.args.at c.args.row.now c.loop-leg.start c.args.machine.now.states c.loop-leg.leg-index c.as_slice-leg-items.result.now
    c.as_slice-leg-items.ensures c.loop-leg-test.false c.loop-leg.invariant.states c.loop-leg.invariant.led c.in_ok-add_leg-2.ensures.steps

pub loop-leg-init : goal.loop-leg-init
loop-leg-init c = record {
  states = refl;
  registers = refl;
  ends = refl;
  led = led-first c.args.machine.now.edges c.args.at c.args.row.now c.args.machine.now.states;
}

pub add_leg-requires-clause-at : goal.add_leg-requires-clause-at
add_leg-requires-clause-at c = subst (λ n. c.args.at < n) (sym c.loop-leg.invariant.states) c.requires.at

pub add_leg-requires-clause-plain : goal.add_leg-requires-clause-plain
add_leg-requires-clause-plain c = c.loop-leg.invariant.registers ∙ c.requires.plain

pub add_leg-requires-2-clause-at : goal.add_leg-requires-2-clause-at
add_leg-requires-2-clause-at c = subst (λ n. c.args.at < n) (sym c.loop-leg.invariant.states) c.requires.at

pub add_leg-requires-2-clause-plain : goal.add_leg-requires-2-clause-plain
add_leg-requires-2-clause-plain c = c.loop-leg.invariant.registers ∙ c.requires.plain
