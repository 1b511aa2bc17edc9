use Rattle.std.proofs.Common.{◌≡◌, ℕ, ◌<◌, ◌^◌, take, slice_index}
use Rattle.machine_core.specs.Costs.{total_of}
use Rattle.machine_core.proofs.run.total.Given as goal

abbrev pub invariant-loop-register : goal.invariant-loop-register
invariant-loop-register g l = record {
  so_far : l.sum ≡ take l.register (total_of l.run.costs l.run.last);
  fits : (k : ℕ) → k < l.register → slice_index (total_of l.run.costs l.run.last) k < 2 ^ 64;
}
