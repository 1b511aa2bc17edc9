use Rattle.std.proofs.Common.{◌≡◌, pos, take}
use Rattle.sv_linear.specs.Terms.{AscendsWithin}
use Rattle.parikh_flow.specs.Building.{AreTermsAdded}
use Rattle.parikh_flow.specs.Rows.{unknowns_after, family_terms}
use Rattle.parikh_flow.proofs.rows.reach_row.Given as goal

abbrev pub invariant-loop-machine : goal.invariant-loop-machine
invariant-loop-machine l = record {
  next : l.next ≡ unknowns_after l.base (take l.machine-index l.machines);
  added : AreTermsAdded (family_terms (λ _. pos 1) (λ _. pos 0) l.base (take l.machine-index l.machines)) l.initial.form l.form;
  ascends : AscendsWithin 0 l.next l.form.coefficients;
}
