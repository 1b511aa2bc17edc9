use Rattle.std.proofs.Common.{◌≡◌, ◌-◌, ◌^◌, drop, min}
use Rattle.sv_linear.specs.Rows.{terms_weight}
use Rattle.cube_region.specs.Regions.{near_amount}
use Rattle.cube_region.proofs.near.weight.Given as goal

abbrev pub invariant-loop-i : goal.invariant-loop-i
invariant-loop-i l = l.total ≡ min (terms_weight (near_amount l.flat l.side) (drop l.i l.terms)) (2 ^ 128 - 1)
