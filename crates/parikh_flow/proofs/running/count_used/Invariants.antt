use Rattle.std.proofs.Common.{◌≡◌, ℕ, ◌<◌, ◌-◌, drop, length, slice_index}
use Rattle.parikh_flow.specs.Counts.{total_count}
use Rattle.parikh_flow.proofs.running.count_used.Given as goal

abbrev pub invariant-loop-i : goal.invariant-loop-i
invariant-loop-i l = record {
  before : (k : ℕ) → k < l.i → slice_index l.counts k ≡ 0;
  rest : total_count (drop l.i l.counts) ≡ 1;
}

abbrev pub decreases-loop-i : goal.decreases-loop-i
decreases-loop-i l = length l.counts - l.i
