use Rattle.std.proofs.Common.{◌≡◌, ℕ, List, map, get_or, drop}
use Rattle.std.specs.List.{sum_by}
use Rattle.sv_terms.specs.CutOff.{cut_off}
use Rattle.cube_bounds.proofs.growing.join_all.Given as goal

abbrev pub invariant-loop-i : goal.invariant-loop-i
invariant-loop-i l = (ms : List ℕ) → l.numbers ≡ map cut_off ms → l.total ≡ cut_off (sum_by (λ v. get_or ms v 1) (drop l.i l.places))
