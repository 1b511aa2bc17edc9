use Rattle.std.proofs.Common.{◌≡◌, [], map, take}
use Rattle.machine_core.specs.Edges.{wide_end}
use Rattle.part_machines.specs.Parts.{priced_edge}
use Rattle.part_machines.proofs.pricing.price.Given as goal

abbrev pub invariant-loop-edge : goal.invariant-loop-edge
invariant-loop-edge l = record {
  states : l.priced.states ≡ l.machine.states;
  registers : l.priced.registers ≡ l.registers;
  edges : l.priced.edges ≡ map (priced_edge l.each) (take l.edge-index l.machine.edges);
  ends : l.priced.ends ≡ [];
}

abbrev pub invariant-loop-end : goal.invariant-loop-end
invariant-loop-end l = record {
  states : l.priced.states ≡ l.machine.states;
  registers : l.priced.registers ≡ l.registers;
  edges : l.priced.edges ≡ map (priced_edge l.each) l.machine.edges;
  ends : l.priced.ends ≡ map (wide_end l.registers) (take l.end-index l.machine.ends);
}
