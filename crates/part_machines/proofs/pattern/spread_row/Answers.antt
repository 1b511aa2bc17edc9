use Rattle.std.proofs.Common.{arith}
use Rattle.part_machines.proofs.PatternLemmas.{ascends-at, legs-formed}
use Rattle.part_machines.proofs.pattern.spread_row.Goals as goal

pub overflow_add-pair : goal.overflow_add-pair
overflow_add-pair c = let x = ascends-at c.args.row.now 0 c.loop-pair.pair-index (0, 0) c.requires c.loop-pair-test.true in omega (arith, x)

pub returns-clause-formed : goal.returns-clause-formed
returns-clause-formed c = legs-formed c.args.row.now c.loop-pair.legs c.loop-pair.pair-index c.requires c.loop-pair-test.false c.loop-pair.invariant
