use Rattle.std.proofs.Common.{◌≡◌, ℕ, ◌<◌, true, Some, slice_get}
use Rattle.machine_core.specs.declared.end.End.{End}
use Rattle.backward.specs.Ways.{is_set, is_marked}
use Rattle.backward.proofs.ways.ends_have_all.Given as goal

-- the rows of the ends before this one have the marks
abbrev pub invariant-loop-i : goal.invariant-loop-i
invariant-loop-i l = (i s : ℕ) (e : End) → i < l.i → slice_get l.ends i ≡ Some e → is_set l.goals s ≡ true → is_marked l.rows e.at s ≡ true
