use Rattle.std.proofs.Common.{◌≡◌, ℕ, map, take}
use Rattle.subset_machine.proofs.targets.target.Given as goal

abbrev pub invariant-loop-hit : goal.invariant-loop-hit
invariant-loop-hit l = l.states.items ≡ map (λ (h : ℕ × ℕ). h.1) (take l.hit-index l.found)
