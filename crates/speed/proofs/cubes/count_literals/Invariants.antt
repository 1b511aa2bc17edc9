use Rattle.std.proofs.Common.{length}
use Rattle.speed.proofs.cubes.count_literals.Given as goal

abbrev pub decreases-loop-cubes : goal.decreases-loop-cubes
decreases-loop-cubes l = length l.cubes
