use Rattle.bool_cubes.proofs.Holding.{contradictions_are_false}
use Rattle.bool_cubes.proofs.contradiction.contradictions_are_false.Goals as goal

pub returns : goal.returns
returns c = contradictions_are_false
