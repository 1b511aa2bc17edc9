use Rattle.std.proofs.Common.{◌≡◌, ◌+◌, take}
use Rattle.sv_linear.specs.Terms.{AscendsWithin}
use Rattle.parikh_flow.specs.Building.{numbered, AreTermsAdded}
use Rattle.parikh_flow.proofs.terms.push_terms.Given as goal

abbrev pub invariant-loop-coefficient : goal.invariant-loop-coefficient
invariant-loop-coefficient l = record {
  next : l.unknown ≡ l.base + l.coefficient-index;
  added : AreTermsAdded (numbered l.base (take l.coefficient-index l.coefficients)) l.initial.form l.form;
  ascends : AscendsWithin 0 l.unknown l.form.coefficients;
}
