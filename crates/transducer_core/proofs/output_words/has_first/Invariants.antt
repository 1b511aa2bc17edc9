use Rattle.std.proofs.Common.{◌≡◌, ◌<◌, ℕ, slice_get, Some}
use Rattle.transducer_core.proofs.output_words.has_first.Given as goal

abbrev pub invariant-loop-at : goal.invariant-loop-at
invariant-loop-at l = (i : ℕ) (y : ℕ × ℕ) → i < l.at → slice_get l.firsts i ≡ Some y → y ≡ (l.c, l.to) → ⊥
