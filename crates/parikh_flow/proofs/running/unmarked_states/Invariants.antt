use Rattle.std.proofs.Common.{◌≡◌, ℕ, ◌<◌, ◌↔◌, true, Some, Contains, slice_get}
use Rattle.std.specs.List.Sorted.{IsStrictlyIncreasing}
use Rattle.parikh_flow.proofs.running.unmarked_states.Given as goal

abbrev pub invariant-loop-state : goal.invariant-loop-state
invariant-loop-state l = record {
  rising : IsStrictlyIncreasing l.set;
  members : (s : ℕ) → Contains l.set s ↔ ((s < l.state) × (slice_get l.marks s ≡ Some true → ⊥));
}
