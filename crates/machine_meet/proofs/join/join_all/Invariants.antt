use Rattle.std.proofs.Common.{take}
use Rattle.machine_meet.specs.Joins.{AreInhabited}
use Rattle.machine_meet.proofs.JoinLemmas.{AreMade}
use Rattle.machine_meet.proofs.join.join_all.Given as goal

abbrev pub invariant-loop-head : goal.invariant-loop-head
invariant-loop-head g l = record {
  exact : AreMade l.heads l.tails (take l.head-index l.head-items) l.all;
  inhabited : AreInhabited l.all;
}
