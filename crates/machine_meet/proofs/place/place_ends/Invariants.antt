use Rattle.std.proofs.Common.{◌≡◌, ◌++◌, map, take}
use Rattle.machine_meet.specs.Builds.{placed_end}
use Rattle.machine_meet.proofs.place.place_ends.Given as goal

abbrev pub invariant-loop-end : goal.invariant-loop-end
invariant-loop-end l = record {
  states : l.whole.states ≡ l.initial.whole.states;
  registers : l.whole.registers ≡ l.initial.whole.registers;
  edges : l.whole.edges ≡ l.initial.whole.edges;
  ends : l.whole.ends ≡ l.initial.whole.ends ++ map (placed_end l.offset) (take l.end-index l.part.ends);
}
