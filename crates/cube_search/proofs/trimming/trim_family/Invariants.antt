use Rattle.std.specs.Prelude.{take}
use Rattle.std.specs.List.{AllZip}
use Rattle.backward.specs.Leaves.{machines_of}
use Rattle.cube_search.specs.Leaves.{IsTrim}
use Rattle.cube_search.proofs.trimming.trim_family.Given as goal

abbrev pub invariant-loop-machine : goal.invariant-loop-machine
invariant-loop-machine l = AllZip IsTrim (machines_of (take l.machine-index l.state.machines)) l.trims
