use Rattle.std.proofs.Common.{◌≡◌, ℕ, List, map, drop}
use Rattle.sv_terms.specs.CutOff.{cut_off}
use Rattle.cube_bounds.specs.Bounds.{product_by}
use Rattle.cube_bounds.proofs.Splits.{splits_of}
use Rattle.cube_bounds.proofs.splitting.all_splits.Given as goal

abbrev pub invariant-loop-i : goal.invariant-loop-i
invariant-loop-i l = (ms : List ℕ) → l.numbers ≡ map cut_off ms → l.splits ≡ cut_off (product_by (splits_of ms) (drop l.i l.definitions))
