use Rattle.std.proofs.Common.{◌≡◌, take}
use Rattle.part_machines.specs.Chains.{ranges_of}
use Rattle.part_machines.proofs.chains.ranges_of.Given as goal

abbrev pub invariant-loop-c : goal.invariant-loop-c
invariant-loop-c l = l.ranges ≡ ranges_of (take l.c-index l.c-items)
