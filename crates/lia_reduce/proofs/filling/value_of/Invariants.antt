use Rattle.std.proofs.Common.{◌≡◌, ◌+ℤ◌, take}
use Rattle.sv_linear.specs.Terms.{terms_value}
use Rattle.farkas_check.specs.Cuts.{values_of}
use Rattle.lia_reduce.proofs.filling.value_of.Given as goal

abbrev pub invariant-loop-unknown : goal.invariant-loop-unknown
invariant-loop-unknown l = l.sum ≡ terms_value (values_of l.point) (take l.unknown-index l.form.coefficients) +ℤ l.form.constant
