use Rattle.std.proofs.Common.{◌≡◌, length, take}
use Rattle.machine_core.specs.Costs.{add_costs}
use Rattle.machine_meet.proofs.pick.left_of.Given as goal

abbrev pub invariant-loop-register : goal.invariant-loop-register
invariant-loop-register l = record {
  count : length l.rest ≡ l.register;
  sum : length l.part ≡ length l.whole → add_costs (take l.register l.part) l.rest ≡ take l.register l.whole;
}
