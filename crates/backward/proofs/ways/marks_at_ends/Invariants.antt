use Rattle.std.proofs.Common.{◌≡◌, ℕ, ◌<◌, true, Some, slice_get, length}
use Rattle.machine_core.specs.declared.end.End.{End}
use Rattle.backward.specs.Ways.{is_set, is_marked}
use Rattle.backward.proofs.ways.marks_at_ends.Given as goal

-- so far the states are marked that are marked in the row of some end
abbrev pub invariant-loop-s : goal.invariant-loop-s
invariant-loop-s l = (length l.stops ≡ l.s) × ((i s : ℕ) (e : End) → slice_get l.ends i ≡ Some e → is_marked l.rows e.at s ≡ true → is_set l.stops s ≡ true)
