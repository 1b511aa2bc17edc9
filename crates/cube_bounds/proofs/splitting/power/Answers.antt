use Rattle.std.proofs.Common.{◌∙◌}
use Rattle.cube_bounds.proofs.Splits.{power_more}
use Rattle.cube_bounds.proofs.splitting.power.Goals as goal

pub loop-i-preserved : goal.loop-i-preserved
loop-i-preserved c m e = c.saturating_mul-power.ensures ∙ power_more m c.args.n c.loop-i.i c.loop-i.power e (c.loop-i.invariant m e)
