use Rattle.std.proofs.Common.{◌≡◌, ℕ, List, length, map, drop}
use Rattle.sv_terms.specs.CutOff.{cut_off}
use Rattle.cube_bounds.specs.Bounds.{times_all}
use Rattle.flat_cubes.specs.Straight.{AreBelow}
use Rattle.cube_bounds.proofs.carrying.multiply_all.Given as goal

abbrev pub invariant-loop-i : goal.invariant-loop-i
invariant-loop-i l = (k : ℕ) (ms : List ℕ) → l.by ≡ cut_off k → l.initial.numbers ≡ map cut_off ms → AreBelow (length ms) l.places → l.numbers ≡ map cut_off (times_all k (drop l.i l.places) ms)
