use Rattle.std.proofs.Common.{◌≡◌, ℕ, ◌<◌, false, Some, slice_get}
use Rattle.cube_search.specs.Conflicts.{is_named}
use Rattle.cube_search.proofs.names.names_any.Given as goal

-- none of the variables before this one is named
abbrev pub invariant-loop-i : goal.invariant-loop-i
invariant-loop-i l = (i v : ℕ) → i < l.i → slice_get l.variables i ≡ Some v → is_named l.names v ≡ false
