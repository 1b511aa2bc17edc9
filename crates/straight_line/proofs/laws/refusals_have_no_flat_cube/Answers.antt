use Rattle.straight_line.proofs.Refused.{refused_none}
use Rattle.straight_line.proofs.laws.refusals_have_no_flat_cube.Goals as goal

pub returns : goal.returns
returns c = refused_none
