use Rattle.std.proofs.Common.{◌≡◌, drop}
use Rattle.sv_terms.specs.CutOff.{cut_off}
use Rattle.sv_terms.specs.TransducerSizes.{edges_most}
use Rattle.cube_bounds.proofs.growing.edges_most.Given as goal

abbrev pub invariant-loop-i : goal.invariant-loop-i
invariant-loop-i l = l.most ≡ cut_off (edges_most (drop l.i l.edges))
