use Rattle.std.proofs.Common.{◌≡◌, ℕ, ◌<◌, true, Some, slice_get}
use Rattle.machine_core.specs.declared.end.End.{End}
use Rattle.backward.specs.Ways.{is_marked}
use Rattle.backward.proofs.ways.is_at_end.Given as goal

-- the state isn't marked in the rows of the ends before this one
abbrev pub invariant-loop-i : goal.invariant-loop-i
invariant-loop-i l = (i : ℕ) (e : End) → i < l.i → slice_get l.ends i ≡ Some e → is_marked l.rows e.at l.s ≡ true → ⊥
