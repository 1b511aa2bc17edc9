use Rattle.std.proofs.Common.{◌≡◌, ◌++◌, map}
use Rattle.std.specs.Vec.Iter.{into_iter_items}
use Rattle.regex_machine.specs.Woven.{counted}
use Rattle.regex_machine.proofs.written.count_from.Given as goal

abbrev pub invariant-loop-step : goal.invariant-loop-step
invariant-loop-step l = record {
  can : goal.iterator-loop-step.can_next l.step-iterator;
  finite : goal.iterator-loop-step.is_finite l.step-iterator;
  split : l.fn.moves ≡ l.yielded ++ into_iter_items l.step-iterator;
  all : l.all ≡ map (counted l.base) l.yielded;
}
