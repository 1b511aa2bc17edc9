use Rattle.std.proofs.Common.{◌≡◌, ◌+◌, All, take}
use Rattle.sv_linear.specs.Terms.{AscendsWithin}
use Rattle.parikh_flow.specs.Building.{AreTermsAdded, CostsFit}
use Rattle.parikh_flow.specs.Rows.{unknowns_after, family_terms, edge_cost, end_cost}
use Rattle.parikh_flow.proofs.rows.register_row.Given as goal

abbrev pub invariant-loop-machine : goal.invariant-loop-machine
invariant-loop-machine l = record {
  next : l.base ≡ unknowns_after (l.integers + l.registers) (take l.machine-index l.machines);
  added : AreTermsAdded (family_terms (edge_cost l.register) (end_cost l.register) (l.integers + l.registers) (take l.machine-index l.machines)) l.initial.form l.form;
  ascends : AscendsWithin 0 l.base l.form.coefficients;
  fit : All (CostsFit l.register) (take l.machine-index l.machines);
}
