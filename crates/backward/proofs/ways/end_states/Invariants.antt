use Rattle.std.proofs.Common.{◌≡◌, ℕ, ◌<◌, true, Some, slice_get}
use Rattle.machine_core.specs.declared.end.End.{End}
use Rattle.backward.specs.Ways.{is_set}
use Rattle.backward.proofs.ways.end_states.Given as goal

-- the states of the ends before this one are marked
abbrev pub invariant-loop-i : goal.invariant-loop-i
invariant-loop-i l = (i : ℕ) (e : End) → i < l.i → slice_get l.ends i ≡ Some e → is_set l.marks e.at ≡ true
