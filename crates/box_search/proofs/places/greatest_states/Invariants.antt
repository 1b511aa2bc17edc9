use Rattle.std.proofs.Common.{◌≡◌, take}
use Rattle.search_hits.specs.Regions.{greatest_states}
use Rattle.box_search.proofs.places.greatest_states.Given as goal

abbrev pub invariant-loop-machine : goal.invariant-loop-machine
invariant-loop-machine l = l.greatest ≡ greatest_states (take l.machine-index l.machines)
