use Rattle.std.proofs.Common.{List, ℕ, All, take}
use Rattle.machine_core.specs.declared.machine.Move.{Move}
use Rattle.regex_machine.specs.Antichains.{AddsPlaces, ArePlaces, HasOneFor}
use Rattle.regex_machine.proofs.emptiness.add_targets.Given as goal

abbrev pub invariant-loop-step : goal.invariant-loop-step
invariant-loop-step l = record {
  more : AddsPlaces l.fn.places l.places;
  states : ArePlaces l.sides l.places;
  each : All (λ (step : Move (List (List ℕ))). HasOneFor l.sides l.places step.to) (take l.step-index l.steps);
}
