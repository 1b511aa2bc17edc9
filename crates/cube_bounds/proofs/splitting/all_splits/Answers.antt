use Rattle.std.proofs.Common.{◌∙◌, arith}
use Rattle.cube_bounds.proofs.Splits.{splits_before}
use Rattle.cube_bounds.proofs.splitting.all_splits.Goals as goal

pub loop-i-preserved : goal.loop-i-preserved
loop-i-preserved c ms e =
    c.saturating_mul-splits.ensures ∙ splits_before ms c.args.definitions.now c.index-definitions-i.result c.loop-i.i c.loop-i.splits c.splits_by.result (omega arith) (omega arith) c.index-definitions-i.is (c.loop-i.invariant ms e) (c.splits_by.ensures ms e)
