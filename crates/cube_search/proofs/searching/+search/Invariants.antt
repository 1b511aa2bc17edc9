use Rattle.std.proofs.Common.{suc, ◌+◌, ◌-◌, length}
use Rattle.cube_search.specs.Conflicts.{AreGathered}
use Rattle.cube_search.specs.Tallies.{IsTally, Keeps}
use Rattle.cube_search.proofs.Measures.{weight}
use Rattle.cube_search.proofs.searching.+search.Given as goal

abbrev pub decreases-descend : goal.decreases-descend
decreases-descend l = weight l.search.now.flat.now.definitions l.left

abbrev pub decreases-try_cuts : goal.decreases-try_cuts
decreases-try_cuts l = suc (weight l.search.now.flat.now.definitions l.at + (length l.pieces.now - length l.cuts.now))

abbrev pub decreases-carry_definition : goal.decreases-carry_definition
decreases-carry_definition l = suc (weight l.search.now.flat.now.definitions l.at)

-- what the cuts before this one come to
abbrev pub invariant-try_cuts-loop-s : goal.invariant-try_cuts-loop-s
invariant-try_cuts-loop-s l = record {
  tally : IsTally l.search.flat.now l.tally;
  kept : Keeps l.fn.tally l.tally;
  gathered : AreGathered l.search.flat.now l.search.region l.at l.pieces l.state.machines l.cuts l.s l.gathered l.tally;
}
