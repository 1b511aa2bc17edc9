use Rattle.std.proofs.Common.{◌≡◌, ◌++◌, map, get_or}
use Rattle.std.specs.Vec.Iter.{into_iter_items}
use Rattle.straight_line.specs.Leading.{definition_by}
use Rattle.straight_line.proofs.naming.definitions.Given as goal

abbrev pub invariant-loop-place : goal.invariant-loop-place
invariant-loop-place l = record {
  can : goal.iterator-loop-place.can_next l.place-iterator;
  finite : goal.iterator-loop-place.is_finite l.place-iterator;
  split : l.fn.met ≡ l.yielded ++ into_iter_items l.place-iterator;
  all : l.definitions ≡ map (definition_by (λ i. get_or l.of i 0)) l.yielded;
}
