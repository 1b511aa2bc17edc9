use Rattle.std.proofs.Common.{◌≡◌, ℕ, List, map, take}
use Rattle.sv_terms.specs.CutOff.{cut_off}
use Rattle.cube_bounds.specs.Growth.{grown}
use Rattle.cube_bounds.proofs.growing.grow_all.Given as goal

abbrev pub invariant-loop-definition : goal.invariant-loop-definition
invariant-loop-definition l = (ms : List ℕ) → l.initial.numbers ≡ map cut_off ms → l.numbers ≡ map cut_off (grown ms (take l.definition-index l.definitions))
