use Rattle.std.proofs.Common.{◌≡◌, ◌++◌, map, take}
use Rattle.machine_meet.specs.Builds.{after_edge}
use Rattle.machine_meet.proofs.concats.edges_after.Given as goal

abbrev pub invariant-loop-step : goal.invariant-loop-step
invariant-loop-step l = record {
  states : l.whole.states ≡ l.initial.whole.states;
  registers : l.whole.registers ≡ l.initial.whole.registers;
  ends : l.whole.ends ≡ l.initial.whole.ends;
  edges : l.whole.edges ≡ l.initial.whole.edges ++ map (after_edge l.end l.offset) (take l.step-index l.moves);
}
