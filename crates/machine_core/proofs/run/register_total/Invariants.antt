use Rattle.std.proofs.Common.{◌≡◌, ◌<◌, ◌^◌, take}
use Rattle.machine_core.specs.Costs.{entry_total}
use Rattle.machine_core.proofs.run.register_total.Given as goal

abbrev pub invariant-loop-cost : goal.invariant-loop-cost
invariant-loop-cost l = record {
  so_far : l.sum ≡ entry_total l.register (take l.cost-index l.costs) l.last;
  fits : l.sum < 2 ^ 64;
}
