use Rattle.std.proofs.Common.{take}
use Rattle.machine_meet.specs.Builds.{Returns}
use Rattle.machine_meet.proofs.stars.star.Given as goal

abbrev pub invariant-loop-edge : goal.invariant-loop-edge
invariant-loop-edge l = Returns l.initial.whole l.whole (take l.edge-index l.a.edges) l.a.ends
