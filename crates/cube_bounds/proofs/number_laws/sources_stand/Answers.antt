use Rattle.cube_bounds.proofs.Sourced.{stand}
use Rattle.cube_bounds.proofs.number_laws.sources_stand.Goals as goal

pub returns : goal.returns
returns c = stand
