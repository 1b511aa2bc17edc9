use Rattle.std.proofs.Common.{arith}
use Rattle.decide.proofs.checking.pass_over.Goals as goal

pub pass-requires : goal.pass-requires
pass-requires c = let k = c.in_ok-known.ensures.enough in omega (arith, k, c.requires.room)

pub returns : goal.returns
returns c = record { cubes = c.in_ok-known.known; known = c.in_ok-known.ensures; left = c.skip.ensures; tallied = c.pass.ensures }
