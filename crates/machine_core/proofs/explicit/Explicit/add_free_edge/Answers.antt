use Rattle.std.proofs.Common.{length, ap, sym, subst, ◌∙◌}
use Rattle.sv_word.specs.Ranges.{IsInhabited}
use Rattle.machine_core.specs.CostLaws.{zeros-length}
use Rattle.machine_core.proofs.explicit.Explicit.add_free_edge.Goals as goal

pub add_edge-requires : goal.add_edge-requires
add_edge-requires c = record {
  from = c.requires.from;
  to = c.requires.to;
  cost = ap length c.in_ok-cost.ensures ∙ zeros-length c.registers.result ∙ c.registers.ensures;
  on = subst IsInhabited (sym c.in_ok-on.ensures) c.requires.on;
}

pub returns-clause-states : goal.returns-clause-states
returns-clause-states c = c.in_ok-add_edge.ensures.states

pub returns-clause-registers : goal.returns-clause-registers
returns-clause-registers c = c.in_ok-add_edge.ensures.registers

pub returns-clause-ends : goal.returns-clause-ends
returns-clause-ends c = c.in_ok-add_edge.ensures.ends

pub returns-clause-ok : goal.returns-clause-ok
returns-clause-ok c = rw (c.in_ok-on.ensures, c.in_ok-cost.ensures, c.registers.ensures) at c.in_ok-add_edge.ensures.ok

pub returns-in_err-add_edge-clause-states : goal.returns-in_err-add_edge-clause-states
returns-in_err-add_edge-clause-states c = c.in_err-add_edge.ensures.states

pub returns-in_err-add_edge-clause-registers : goal.returns-in_err-add_edge-clause-registers
returns-in_err-add_edge-clause-registers c = c.in_err-add_edge.ensures.registers

pub returns-in_err-add_edge-clause-ends : goal.returns-in_err-add_edge-clause-ends
returns-in_err-add_edge-clause-ends c = c.in_err-add_edge.ensures.ends
