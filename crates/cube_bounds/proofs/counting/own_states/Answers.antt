use Rattle.std.proofs.Common.{◌∙◌, arith}
use Rattle.cube_bounds.proofs.Owned.{part_before}
use Rattle.cube_bounds.proofs.counting.own_states.Goals as goal

pub loop-i-preserved : goal.loop-i-preserved
loop-i-preserved c = c.saturating_mul-states.ensures ∙ part_before c.args.parts.now c.index-parts-i.result c.loop-i.i c.loop-i.states c.part_states.result (omega arith) (omega arith) c.index-parts-i.is c.loop-i.invariant c.part_states.ensures
