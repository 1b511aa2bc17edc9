use Rattle.std.proofs.Common.{◌≡◌, drop}
use Rattle.sv_terms.specs.CutOff.{cut_off}
use Rattle.cube_bounds.specs.Bounds.{part_bound, product_by}
use Rattle.cube_bounds.proofs.counting.own_states.Given as goal

abbrev pub invariant-loop-i : goal.invariant-loop-i
invariant-loop-i l = l.states ≡ cut_off (product_by part_bound (drop l.i l.parts))
