use Rattle.std.proofs.Common.{◌≡◌, ◌++◌, map}
use Rattle.std.specs.Vec.Iter.{into_iter_items}
use Rattle.machine_meet.specs.Joins.{listed}
use Rattle.machine_meet.proofs.product.to_lists.Given as goal

abbrev pub invariant-loop-step : goal.invariant-loop-step
invariant-loop-step g l = record {
  can : (goal.iterator-loop-step g).can_next l.step-iterator;
  finite : (goal.iterator-loop-step g).is_finite l.step-iterator;
  split : l.fn.moves ≡ l.yielded ++ into_iter_items l.step-iterator;
  all : l.all ≡ map listed l.yielded;
}
