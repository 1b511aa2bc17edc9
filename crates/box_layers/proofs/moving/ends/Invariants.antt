use Rattle.std.proofs.Common.{◌≡◌, take, map}
use Rattle.box_layers.specs.Moving.{end_moves}
use Rattle.box_layers.proofs.moving.ends.Given as goal

abbrev pub invariant-loop-cost : goal.invariant-loop-cost
invariant-loop-cost l = l.all ≡ end_moves (map (λ s. s.1) l.sides) l.on l.at (take l.cost-index l.costs)
