use Rattle.sv_linear.specs.Terms.{AscendsWithin}
use Rattle.lia_reduce.proofs.elimination.form_of.Given as goal

abbrev pub invariant-loop-unknown : goal.invariant-loop-unknown
invariant-loop-unknown l = AscendsWithin 0 l.unknown l.form.coefficients
