use Rattle.std.proofs.Common.{◌≡◌, ◌+◌, take}
use Rattle.search_hits.specs.Hits.{characters}
use Rattle.leaf_solve.proofs.words.are_within.Given as goal

abbrev pub invariant-loop-run : goal.invariant-loop-run
invariant-loop-run l = characters (take l.run-index l.runs) + l.left ≡ l.reach
