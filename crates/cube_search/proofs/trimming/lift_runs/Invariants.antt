use Rattle.std.specs.Prelude.{take}
use Rattle.cube_search.specs.Leaves.{AreLifted}
use Rattle.cube_search.proofs.trimming.lift_runs.Given as goal

abbrev pub invariant-loop-place : goal.invariant-loop-place
invariant-loop-place l = AreLifted (take l.place l.trims) (take l.place l.runs) l.lifted
