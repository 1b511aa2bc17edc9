use Rattle.std.proofs.Common.{◌≡◌}
use Rattle.leaf_tests.proofs.box_search_calls.multiples.Given as goal

abbrev pub invariant-loop-from : goal.invariant-loop-from
invariant-loop-from l = record {
  states : l.machine.states ≡ l.states;
  registers : l.machine.registers ≡ 1;
}
