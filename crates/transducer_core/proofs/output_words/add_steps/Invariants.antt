use Rattle.std.proofs.Common.{◌≡◌, ◌⊎◌, ◌↔◌, ℕ, List, take}
use Rattle.machine_core.specs.Edges.{StepsBy}
use Rattle.transducer_core.specs.Built.{IsAnyStep}
use Rattle.transducer_core.proofs.output_words.add_steps.Given as goal

abbrev pub invariant-loop-first : goal.invariant-loop-first
invariant-loop-first l = (l.machine.states ≡ l.initial.machine.states) × (l.machine.registers ≡ l.initial.machine.registers) × (l.machine.ends ≡ l.initial.machine.ends)
    × ((s d : ℕ) (cost : List ℕ) (to : ℕ) → StepsBy l.machine.edges s d cost to ↔ (StepsBy l.initial.machine.edges s d cost to ⊎ IsAnyStep l.state (take l.first-index l.firsts) s d cost to))
