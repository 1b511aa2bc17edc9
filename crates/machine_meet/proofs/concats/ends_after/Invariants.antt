use Rattle.std.proofs.Common.{◌≡◌, ◌++◌, map, take}
use Rattle.machine_meet.specs.Builds.{after_end}
use Rattle.machine_meet.proofs.concats.ends_after.Given as goal

abbrev pub invariant-loop-last : goal.invariant-loop-last
invariant-loop-last l = record {
  states : l.whole.states ≡ l.initial.whole.states;
  registers : l.whole.registers ≡ l.initial.whole.registers;
  edges : l.whole.edges ≡ l.initial.whole.edges;
  ends : l.whole.ends ≡ l.initial.whole.ends ++ map (after_end l.end) (take l.last-index l.costs);
}
