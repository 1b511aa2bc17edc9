use Rattle.trim_search.specs.Incoming.{AreIncoming}
use Rattle.trim_search.proofs.rests.index_incoming.Given as goal

abbrev pub invariant-loop-edge : goal.invariant-loop-edge
invariant-loop-edge l = AreIncoming l.machine.states l.machine.edges l.edge-index l.last l.before
