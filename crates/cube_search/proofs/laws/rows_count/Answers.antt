use Rattle.flat_cubes.specs.Met.{met}
use Rattle.cube_search.proofs.BareLemmas.{bare}
use Rattle.cube_search.proofs.laws.rows_count.Goals as goal

pub returns : goal.returns
returns c ls flat is = bare (met ls) flat is.of
