use Rattle.std.proofs.Common.{◌≡◌, ◌++◌, map, take}
use Rattle.machine_meet.specs.Builds.{placed_edge}
use Rattle.machine_meet.proofs.place.place_edges.Given as goal

abbrev pub invariant-loop-edge : goal.invariant-loop-edge
invariant-loop-edge l = record {
  states : l.whole.states ≡ l.initial.whole.states;
  registers : l.whole.registers ≡ l.initial.whole.registers;
  ends : l.whole.ends ≡ l.initial.whole.ends;
  edges : l.whole.edges ≡ l.initial.whole.edges ++ map (placed_edge l.offset) (take l.edge-index l.part.edges);
}
