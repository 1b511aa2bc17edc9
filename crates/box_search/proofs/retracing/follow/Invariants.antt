use Rattle.box_search.specs.Ways.{IsLayerWay}
use Rattle.box_search.proofs.retracing.follow.Given as goal

abbrev pub invariant-loop-place : goal.invariant-loop-place
invariant-loop-place l = IsLayerWay l.layers.machines.now l.layers.rows.now l.layers.region.now l.run
