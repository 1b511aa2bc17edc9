use Rattle.bool_cubes.proofs.Choosing.{cubes_counted}
use Rattle.bool_cubes.proofs.laws.cubes_are_counted.Goals as goal

pub returns : goal.returns
returns c = cubes_counted
