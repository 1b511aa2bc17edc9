use Rattle.std.proofs.Common.{◌≡◌, ◌++◌, length}
use Rattle.std.specs.Vec.Iter.{into_iter_items}
use Rattle.straight_line.specs.Filling.{parted_all}
use Rattle.straight_line.proofs.filling.add_parts.Given as goal

abbrev pub invariant-loop-place : goal.invariant-loop-place
invariant-loop-place l = record {
  can : goal.iterator-loop-place.can_next l.place-iterator;
  finite : goal.iterator-loop-place.is_finite l.place-iterator;
  split : l.fn.parts ≡ l.yielded ++ into_iter_items l.place-iterator;
  count : length l.variables.items ≡ length l.fn.variables.items;
  parted : l.variables.items ≡ parted_all l.of l.yielded l.fn.variables.items;
}
