use Rattle.std.proofs.Common.{◌≡◌, take}
use Rattle.replace_machines.proofs.edges.prefix.Given as goal

abbrev pub invariant-loop-place : goal.invariant-loop-place
invariant-loop-place l = l.word ≡ take l.place l.pattern
