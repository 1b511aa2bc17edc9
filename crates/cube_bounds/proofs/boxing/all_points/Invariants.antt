use Rattle.std.proofs.Common.{◌≡◌, drop}
use Rattle.std.specs.Option.{option_map}
use Rattle.sv_terms.specs.CutOff.{cut_off}
use Rattle.cube_bounds.specs.Sides.{points_of}
use Rattle.cube_bounds.proofs.boxing.all_points.Given as goal

abbrev pub invariant-loop-i : goal.invariant-loop-i
invariant-loop-i l = l.points ≡ option_map cut_off (points_of (drop l.i l.sides))
