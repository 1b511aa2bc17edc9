use Rattle.cube_bounds.proofs.Grows.{short}
use Rattle.cube_bounds.proofs.number_laws.words_are_short.Goals as goal

pub returns : goal.returns
returns c = short
