use Rattle.flat_cubes.specs.Met.{met}
use Rattle.straight_line.proofs.Flattened.{flattened}
use Rattle.straight_line.proofs.flattening.flatten.Goals as goal

pub returns-clause-flat : goal.returns-clause-flat
returns-clause-flat c =
    let ls = c.args.cube.now.literals in
    flattened ls c.finish.result c.in_ok-draft.ensures.0 (c.finish.ensures.finished (met ls) c.in_ok-draft.ensures.1)
