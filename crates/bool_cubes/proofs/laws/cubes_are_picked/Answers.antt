use Rattle.bool_cubes.proofs.Picked.{picked}
use Rattle.bool_cubes.proofs.laws.cubes_are_picked.Goals as goal

pub returns : goal.returns
returns c = picked
