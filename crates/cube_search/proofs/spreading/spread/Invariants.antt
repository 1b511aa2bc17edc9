use Rattle.std.specs.Vec.Iter.{into_iter_items}
use Rattle.cube_search.proofs.SpreadLemmas.{IsUnderWay}
use Rattle.cube_search.proofs.spreading.spread.Given as goal

abbrev pub invariant-loop-machine : goal.invariant-loop-machine
invariant-loop-machine l = IsUnderWay l.state.machines l.fn.hit.runs l.machine-index (into_iter_items l.left) l.spread
