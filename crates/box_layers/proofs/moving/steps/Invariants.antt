use Rattle.std.proofs.Common.{◌≡◌, take, map}
use Rattle.box_layers.specs.Moving.{step_moves}
use Rattle.box_layers.proofs.moving.steps.Given as goal

abbrev pub invariant-loop-step : goal.invariant-loop-step
invariant-loop-step l = l.all ≡ step_moves (map (λ s. s.1) l.sides) l.at (take l.step-index l.moves)
