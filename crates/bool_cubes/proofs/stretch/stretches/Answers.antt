use Rattle.std.proofs.Common.{arith}
use Rattle.bool_cubes.specs.Nodes.{tree_at}
use Rattle.bool_cubes.proofs.Ahead.{joined}
use Rattle.bool_cubes.proofs.stretch.stretches.Goals as goal

pub loop-ahead-preserved : goal.loop-ahead-preserved
loop-ahead-preserved c =
    let w = c.in_ok-more.ensures.within in
    record {
      within = omega (arith, w);
      stretch = joined (tree_at c.args.nodes.now c.args.root) c.args.number c.loop-ahead.ahead c.in_ok-more.more c.loop-ahead.invariant.stretch c.in_ok-more.ensures.stretch;
    }
