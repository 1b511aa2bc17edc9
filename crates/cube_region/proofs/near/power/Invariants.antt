use Rattle.std.proofs.Common.{◌≡◌, ◌+◌, ◌^◌, min}
use Rattle.sv_terms.specs.declared.limits.TheConstants.{MOST_POINTS}
use Rattle.cube_region.proofs.near.power.Given as goal

abbrev pub invariant-loop-i : goal.invariant-loop-i
invariant-loop-i l = l.power ≡ min (l.base ^ l.i) (MOST_POINTS + 1)
