use Rattle.std.proofs.Common.{◌≡◌, length, take, get_or}
use Rattle.straight_line.specs.Keeping.{kept_all, nothing_kept}
use Rattle.straight_line.proofs.keeping.keep.Given as goal

abbrev pub invariant-loop-quantity : goal.invariant-loop-quantity
invariant-loop-quantity l = (l.i ≡ length l.yielded) × (l.kept ≡ kept_all (λ i. get_or l.of i 0) l.yielded (take l.i l.used) nothing_kept)
