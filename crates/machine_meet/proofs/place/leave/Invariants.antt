use Rattle.std.proofs.Common.{◌≡◌, ◌++◌, map, take}
use Rattle.machine_meet.specs.Builds.{leaving_edge}
use Rattle.machine_meet.proofs.place.leave.Given as goal

abbrev pub invariant-loop-step : goal.invariant-loop-step
invariant-loop-step l = record {
  states : l.whole.states ≡ l.initial.whole.states;
  registers : l.whole.registers ≡ l.initial.whole.registers;
  ends : l.whole.ends ≡ l.initial.whole.ends;
  edges : l.whole.edges ≡ l.initial.whole.edges ++ map (leaving_edge l.from l.offset) (take l.step-index l.moves);
}
