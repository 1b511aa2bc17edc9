use Rattle.straight_line.proofs.Joined.{flat_exact}
use Rattle.straight_line.proofs.laws.flat_cubes_are_exact.Goals as goal

pub returns : goal.returns
returns c = flat_exact c.membership_is_decided.ensures c.pairs_are_decided.ensures
