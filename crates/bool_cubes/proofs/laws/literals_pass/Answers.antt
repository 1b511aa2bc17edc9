use Rattle.bool_cubes.proofs.Kept.{literals_pass}
use Rattle.bool_cubes.proofs.laws.literals_pass.Goals as goal

pub returns : goal.returns
returns c = literals_pass
