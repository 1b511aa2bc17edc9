use Rattle.generated_cubes.proofs.Cubes.{counted_one, one_cube}
use Rattle.generated_cubes.proofs.Small.{small_block}
use Rattle.generated_cubes.proofs.Steps.{no_past}
use Rattle.generated_cubes.proofs.laws.blocks_are_small.Goals as goal

pub returns : goal.returns
returns c = record { one = counted_one; cubes = one_cube; fits = no_past; flat = small_block }
