use Rattle.std.proofs.Common.{◌≡◌, ℕ, List, length, map, drop}
use Rattle.sv_terms.specs.CutOff.{cut_off}
use Rattle.cube_bounds.specs.Bounds.{carried_all}
use Rattle.flat_cubes.specs.Straight.{HaveVariablesBelow}
use Rattle.cube_bounds.proofs.carrying.carry_all.Given as goal

abbrev pub invariant-loop-i : goal.invariant-loop-i
invariant-loop-i l = (ms : List ℕ) → l.initial.numbers ≡ map cut_off ms → HaveVariablesBelow (length ms) l.definitions → l.numbers ≡ map cut_off (carried_all (drop l.i l.definitions) ms)
