use Rattle.std.proofs.Common.{◌≡◌, ℕ, length}
use Rattle.cube_search.specs.Conflicts.{is_named}
use Rattle.cube_search.proofs.names.lengthen.Given as goal

-- there are so many marks, which name what was named
abbrev pub invariant-loop-place : goal.invariant-loop-place
invariant-loop-place l = (length l.names ≡ l._place) × ((u : ℕ) → is_named l.names u ≡ is_named l.fn.names u)
