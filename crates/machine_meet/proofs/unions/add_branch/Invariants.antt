use Rattle.std.proofs.Common.{◌≡◌, ◌++◌, map, take}
use Rattle.machine_core.specs.Edges.{ending}
use Rattle.machine_meet.proofs.unions.add_branch.Given as goal

abbrev pub invariant-loop-cost : goal.invariant-loop-cost
invariant-loop-cost l = record {
  states : l.whole.states ≡ l.initial.whole.states;
  registers : l.whole.registers ≡ l.initial.whole.registers;
  edges : l.whole.edges ≡ l.initial.whole.edges;
  ends : l.whole.ends ≡ l.initial.whole.ends ++ map (ending 0) (take l.cost-index l.cost-items);
}
