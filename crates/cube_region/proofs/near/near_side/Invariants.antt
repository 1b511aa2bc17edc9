use Rattle.std.proofs.Common.{◌^◌, ◌≤◌}
use Rattle.sv_terms.specs.declared.limits.TheConstants.{MOST_POINTS}
use Rattle.cube_region.proofs.near.near_side.Given as goal

abbrev pub invariant-loop-side : goal.invariant-loop-side
invariant-loop-side l = l.side ^ l.count ≤ MOST_POINTS
