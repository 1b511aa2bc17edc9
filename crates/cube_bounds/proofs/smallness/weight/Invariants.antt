use Rattle.std.proofs.Common.{◌≡◌, ◌++◌, ◌-◌, ◌^◌, drop, min}
use Rattle.sv_linear.specs.Rows.{terms_weight}
use Rattle.cube_bounds.specs.Sides.{amount_among}
use Rattle.cube_bounds.proofs.smallness.weight.Given as goal

abbrev pub invariant-loop-i : goal.invariant-loop-i
invariant-loop-i l = l.total ≡ min (terms_weight (amount_among (l.integers ++ l.registers)) (drop l.i l.terms)) (2 ^ 128 - 1)
