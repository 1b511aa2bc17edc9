use Rattle.cube_bounds.proofs.Grows.{bounded, solved}
use Rattle.cube_bounds.proofs.number_laws.growth_is_solved.Goals as goal

pub returns-clause-solved : goal.returns-clause-solved
returns-clause-solved c = solved

pub returns-clause-bounded : goal.returns-clause-bounded
returns-clause-bounded c = bounded
