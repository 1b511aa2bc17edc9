use Rattle.std.proofs.Common.{◌≡◌, map, take}
use Rattle.machine_core.specs.Places.{pick}
use Rattle.machine_core.specs.declared.end.End.{End}
use Rattle.machine_core.proofs.explicit.costs_of.Given as goal

abbrev pub invariant-loop-place : goal.invariant-loop-place
invariant-loop-place l = l.costs ≡ map (λ (e : End). e.cost) (pick l.ends (take l.place-index l.places))
