use Rattle.std.proofs.Common.{◌≡◌, [], map, take}
use Rattle.machine_core.specs.Edges.{wide_edge, wide_end}
use Rattle.machine_core.proofs.explicit.Explicit.widen.Given as goal

abbrev pub invariant-loop-edge : goal.invariant-loop-edge
invariant-loop-edge l = record {
  states : l.wide.states ≡ l.self.states;
  registers : l.wide.registers ≡ l.registers;
  edges : l.wide.edges ≡ map (wide_edge l.registers) (take l.edge-index l.self.edges);
  ends : l.wide.ends ≡ [];
}

abbrev pub invariant-loop-end : goal.invariant-loop-end
invariant-loop-end l = record {
  states : l.wide.states ≡ l.self.states;
  registers : l.wide.registers ≡ l.registers;
  edges : l.wide.edges ≡ map (wide_edge l.registers) l.self.edges;
  ends : l.wide.ends ≡ map (wide_end l.registers) (take l.end-index l.self.ends);
}
