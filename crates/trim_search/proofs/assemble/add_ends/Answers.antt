use Rattle.std.proofs.Common.{◌∙◌}
use Rattle.sv_list.specs.Lists.{split-step, in-split}
use Rattle.machine_core.specs.Edges.{ending}
use Rattle.trim_search.proofs.FlatLemmas.{map-more}
use Rattle.trim_search.proofs.assemble.add_ends.Goals as goal

pub add_end-requires-clause-at : goal.add_end-requires-clause-at
add_end-requires-clause-at c = rw c.loop-cost.invariant.states c.requires.at

pub add_end-requires-clause-cost : goal.add_end-requires-clause-cost
add_end-requires-clause-cost c = rw c.loop-cost.invariant.registers (c.requires.width c.in-Some.cost (in-split _ _ _ _ c.in-Some.cost c.loop-cost.invariant.split c.in-Some.ensures.steps.0))

pub loop-cost-preserved : goal.loop-cost-preserved
loop-cost-preserved c =
    let inv = c.loop-cost.invariant in
    record {
      can = tt;
      finite = tt;
      split = split-step _ _ _ _ c.in-Some.cost inv.split c.in-Some.ensures.steps.0;
      states = c.add_end.ensures.states ∙ inv.states;
      registers = c.add_end.ensures.registers ∙ inv.registers;
      edges = c.add_end.ensures.edges ∙ inv.edges;
      ends = map-more (ending c.args.at) c.args.machine.now.ends c.loop-cost.machine.ends c.add_end.new.self.ends c.loop-cost.yielded c.in-Some.cost inv.ends c.in_ok-add_end.ensures.ok;
    }

pub returns-clause-states : goal.returns-clause-states
returns-clause-states c = c.loop-cost.invariant.states

pub returns-in_err-add_end-clause-states : goal.returns-in_err-add_end-clause-states
returns-in_err-add_end-clause-states c = c.add_end.ensures.states ∙ c.loop-cost.invariant.states

pub returns-clause-registers : goal.returns-clause-registers
returns-clause-registers c = c.loop-cost.invariant.registers

pub returns-in_err-add_end-clause-registers : goal.returns-in_err-add_end-clause-registers
returns-in_err-add_end-clause-registers c = c.add_end.ensures.registers ∙ c.loop-cost.invariant.registers

pub returns-clause-edges : goal.returns-clause-edges
returns-clause-edges c = c.loop-cost.invariant.edges

pub returns-in_err-add_end-clause-edges : goal.returns-in_err-add_end-clause-edges
returns-in_err-add_end-clause-edges c = c.add_end.ensures.edges ∙ c.loop-cost.invariant.edges
