use Rattle.std.proofs.Common.{◌≡◌, ℕ, ◌+◌, ◌<◌, pos, length, slice_index}
use Rattle.farkas_check.specs.Cuts.{values_of}
use Rattle.leaf_solve.proofs.counts.counts_at.Given as goal

abbrev pub invariant-loop-k : goal.invariant-loop-k
invariant-loop-k l = record {
  size : length l.counts ≡ l.k;
  values : (j : ℕ) → j < l.k → values_of l.point (l.base + j) ≡ pos (slice_index l.counts j);
}
