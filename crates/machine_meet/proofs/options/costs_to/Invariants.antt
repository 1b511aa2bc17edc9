use Rattle.std.proofs.Common.{◌≡◌, ◌↔◌, ℕ, List, Any, take}
use Rattle.machine_core.specs.Moves.{Moves}
use Rattle.machine_meet.proofs.options.costs_to.Given as goal

abbrev pub invariant-loop-step : goal.invariant-loop-step
invariant-loop-step g l = (k : List ℕ) → Any (λ e. e ≡ k) l.costs ↔ Any (Moves l.c k l.to) (take l.step-index l.moves)
