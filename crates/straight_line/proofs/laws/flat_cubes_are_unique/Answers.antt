use Rattle.straight_line.proofs.Unique.{flat_one}
use Rattle.straight_line.proofs.laws.flat_cubes_are_unique.Goals as goal

pub returns : goal.returns
returns c = flat_one
