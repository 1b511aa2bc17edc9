use Rattle.std.proofs.Common.{◌≡◌, ◌++◌, ◌+◌, ◌<◌, ◌^◌, List, map, length, Ok}
use Rattle.std.specs.Vec.Iter.{into_iter_items}
use Rattle.cube_search.specs.declared.answer.CubeAnswer.{CubeAnswer}
use Rattle.decide.specs.Tallies.{IsTallyWith}
use Rattle.decide.proofs.tally.tally_all.Given as goal

-- the answers so far
abbrev pub invariant-loop-outcome : goal.invariant-loop-outcome
invariant-loop-outcome l = record {
  can : goal.iterator-loop-outcome.can_next l.outcome-iterator;
  finite : goal.iterator-loop-outcome.is_finite l.outcome-iterator;
  split : l.fn.outcomes.items ≡ l.yielded ++ into_iter_items l.outcome-iterator;
  bound : l.tally.count + length (into_iter_items l.outcome-iterator) < 2 ^ 64;
  answers : List CubeAnswer;
  are : l.yielded ≡ map Ok answers;
  tallied : IsTallyWith answers l.fn.tally l.tally;
}
