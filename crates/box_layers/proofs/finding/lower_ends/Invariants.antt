use Rattle.std.proofs.Common.{◌≡◌, map, take}
use Rattle.box_layers.proofs.finding.lower_ends.Given as goal

abbrev pub invariant-loop-low : goal.invariant-loop-low
invariant-loop-low l = l.ends ≡ map (λ s. s.0) (take l.low-index l.sides)
