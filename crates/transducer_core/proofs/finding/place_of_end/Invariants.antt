use Rattle.std.proofs.Common.{◌≡◌, ◌<◌, ℕ, drop, slice_get, Some, Contains}
use Rattle.transducer_core.specs.declared.reached.Reached.{Reached}
use Rattle.transducer_core.proofs.finding.place_of_end.Given as goal

abbrev pub invariant-loop-at : goal.invariant-loop-at
invariant-loop-at l = (i : ℕ) (r : Reached) → i < l.at → slice_get l.layer i ≡ Some r → Contains l.transducer.ends (r.state, drop r.done l.written) → ⊥
