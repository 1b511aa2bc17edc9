use Rattle.std.specs.Prelude.{◌≡◌, map, take}
use Rattle.cube_search.specs.Leaves.{machine_of}
use Rattle.cube_search.proofs.trimming.machines_of.Given as goal

abbrev pub invariant-loop-trim : goal.invariant-loop-trim
invariant-loop-trim l = l.all ≡ map machine_of (take l.trim-index l.trims)
