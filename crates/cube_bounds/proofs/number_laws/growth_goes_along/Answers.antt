use Rattle.cube_bounds.proofs.Grows.{along, writes_within}
use Rattle.cube_bounds.proofs.number_laws.growth_goes_along.Goals as goal

pub returns-clause-along : goal.returns-clause-along
returns-clause-along c = along

pub returns-clause-within : goal.returns-clause-within
returns-clause-within c = writes_within
