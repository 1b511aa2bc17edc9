use Rattle.std.proofs.Common.{length}
use Rattle.part_machines.specs.Pairs.{AreMet}
use Rattle.part_machines.proofs.pairs.meet_pairs.Given as goal

abbrev pub invariant-rounds : goal.invariant-rounds
invariant-rounds l = AreMet l.fn.machines l.met

abbrev pub decreases-rounds : goal.decreases-rounds
decreases-rounds l = length l.met
