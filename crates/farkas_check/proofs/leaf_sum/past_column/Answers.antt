use Rattle.std.proofs.Common.{arith}
use Rattle.farkas_check.proofs.LeafSums.{past_constant}
use Rattle.farkas_check.proofs.leaf_sum.past_column.Goals as goal

pub returns : goal.returns
returns c = past_constant c.args.unknowns c.args.rows.now c.args.multipliers.now c.requires.names (λ u h. c.loop-unknown.invariant u (omega (arith, h, c.loop-unknown-test.false, c.loop-unknown.auto.unknown-end))) c.requires.past
