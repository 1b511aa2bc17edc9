use Rattle.std.proofs.Common.{◌≡◌, drop}
use Rattle.sv_terms.specs.CutOff.{cut_off}
use Rattle.sv_terms.specs.TransducerSizes.{items_size}
use Rattle.cube_bounds.proofs.growing.items_size.Given as goal

abbrev pub invariant-loop-i : goal.invariant-loop-i
invariant-loop-i l = l.total ≡ cut_off (items_size (drop l.i l.items))
