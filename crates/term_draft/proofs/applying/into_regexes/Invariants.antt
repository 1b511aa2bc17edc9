use Rattle.std.proofs.Common.{◌≡◌, ◌++◌, map}
use Rattle.std.specs.Vec.Iter.{into_iter_items}
use Rattle.term_weight.specs.Bodies.{regex_of}
use Rattle.term_draft.proofs.applying.into_regexes.Given as goal

abbrev pub invariant-loop-body : goal.invariant-loop-body
invariant-loop-body l = record {
  can : goal.iterator-loop-body.can_next l.body-iterator;
  finite : goal.iterator-loop-body.is_finite l.body-iterator;
  split : l.fn.bodies ≡ l.yielded ++ into_iter_items l.body-iterator;
  made : l.all ≡ map regex_of l.yielded;
}
