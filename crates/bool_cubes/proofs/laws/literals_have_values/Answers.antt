use Rattle.bool_cubes.proofs.Kept.{literals_valued}
use Rattle.bool_cubes.proofs.laws.literals_have_values.Goals as goal

pub returns : goal.returns
returns c = literals_valued
