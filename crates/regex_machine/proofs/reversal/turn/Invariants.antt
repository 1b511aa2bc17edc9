use Rattle.std.proofs.Common.{◌≡◌, ◌+◌, ◌<◌, ◌^◌, [], take}
use Rattle.regex_machine.specs.Reversed.{AreTurned}
use Rattle.regex_machine.proofs.reversal.turn.Given as goal

abbrev pub invariant-loop-edge : goal.invariant-loop-edge
invariant-loop-edge l = record {
  states : l.whole.states ≡ l.part.states + 1;
  fits : l.whole.states < 2 ^ 32;
  registers : l.whole.registers ≡ 0;
  ends : l.whole.ends ≡ [];
  turned : AreTurned l.part.ends (take l.edge-index l.part.edges) l.whole.edges;
}
