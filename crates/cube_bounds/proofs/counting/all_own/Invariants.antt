use Rattle.std.proofs.Common.{◌≡◌, map, take}
use Rattle.sv_terms.specs.CutOff.{cut_off}
use Rattle.cube_bounds.specs.Bounds.{own_bound}
use Rattle.cube_bounds.proofs.counting.all_own.Given as goal

abbrev pub invariant-loop-variable : goal.invariant-loop-variable
invariant-loop-variable l = l.numbers ≡ map cut_off (map own_bound (take l.variable-index l.variables))
