use Rattle.std.proofs.Common.{◌≡◌, take}
use Rattle.std.specs.List.{AllZip}
use Rattle.trim_search.specs.Shortest.{IsShortestRun}
use Rattle.leaf_solve.proofs.shortest.shortest_runs.Given as goal

abbrev pub invariant-loop-machine : goal.invariant-loop-machine
invariant-loop-machine l = record {
  place : l.place ≡ l.machine-index;
  runs : AllZip IsShortestRun (take l.machine-index l.machines) l.runs;
}
