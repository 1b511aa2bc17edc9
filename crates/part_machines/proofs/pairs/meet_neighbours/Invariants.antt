use Rattle.std.proofs.Common.{length, ◌-◌, ◌++◌, drop}
use Rattle.part_machines.specs.Pairs.{AreMet}
use Rattle.part_machines.proofs.pairs.meet_neighbours.Given as goal

abbrev pub invariant-loop-at : goal.invariant-loop-at
invariant-loop-at l = AreMet l.machines (l.met ++ drop l.at l.machines)

abbrev pub decreases-loop-at : goal.decreases-loop-at
decreases-loop-at l = length l.machines - l.at
