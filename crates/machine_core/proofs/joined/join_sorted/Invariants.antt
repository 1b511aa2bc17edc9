use Rattle.std.proofs.Common.{◌≡◌, ◌++◌}
use Rattle.std.specs.Vec.Iter.{into_iter_items}
use Rattle.machine_core.specs.Joined.{AreJoinedMoves}
use Rattle.machine_core.proofs.joined.join_sorted.Given as goal

abbrev pub invariant-loop-step : goal.invariant-loop-step
invariant-loop-step l = record {
  can : goal.iterator-loop-step.can_next l.step-iterator;
  finite : goal.iterator-loop-step.is_finite l.step-iterator;
  split : l.fn.moves ≡ l.yielded ++ into_iter_items l.step-iterator;
  joined : AreJoinedMoves l.yielded l.joined;
}
