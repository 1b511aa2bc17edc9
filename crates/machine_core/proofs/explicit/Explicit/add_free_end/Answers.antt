use Rattle.std.proofs.Common.{length, ap, ◌∙◌}
use Rattle.machine_core.specs.CostLaws.{zeros-length}
use Rattle.machine_core.proofs.explicit.Explicit.add_free_end.Goals as goal

pub add_end-requires-clause-cost : goal.add_end-requires-clause-cost
add_end-requires-clause-cost c = ap length c.in_ok-cost.ensures ∙ zeros-length c.registers.result ∙ c.registers.ensures

pub returns-clause-states : goal.returns-clause-states
returns-clause-states c = c.in_ok-add_end.ensures.states

pub returns-clause-registers : goal.returns-clause-registers
returns-clause-registers c = c.in_ok-add_end.ensures.registers

pub returns-clause-edges : goal.returns-clause-edges
returns-clause-edges c = c.in_ok-add_end.ensures.edges

pub returns-clause-ok : goal.returns-clause-ok
returns-clause-ok c = rw (c.in_ok-cost.ensures, c.registers.ensures) at c.in_ok-add_end.ensures.ok

pub returns-in_err-add_end-clause-states : goal.returns-in_err-add_end-clause-states
returns-in_err-add_end-clause-states c = c.in_err-add_end.ensures.states

pub returns-in_err-add_end-clause-registers : goal.returns-in_err-add_end-clause-registers
returns-in_err-add_end-clause-registers c = c.in_err-add_end.ensures.registers

pub returns-in_err-add_end-clause-edges : goal.returns-in_err-add_end-clause-edges
returns-in_err-add_end-clause-edges c = c.in_err-add_end.ensures.edges
