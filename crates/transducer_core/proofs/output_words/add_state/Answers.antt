use Rattle.std.proofs.Common.{◌≡◌, ◌⊎◌, ◌↔◌, ℕ, List, [], Contains, IsTrue, sym, subst}
use Rattle.machine_core.specs.Edges.{EndsAt, StepsBy}
use Rattle.machine_core.specs.declared.edge.Edge.{Edge}
use Rattle.machine_core.specs.declared.end.End.{End}
use Rattle.transducer_core.specs.Built.{IsAnyStep}
use Rattle.transducer_core.proofs.BuiltLemmas.{built_more}
use Rattle.transducer_core.proofs.output_words.add_state.Goals as goal

pub add_steps-requires-clause-firsts : goal.add_steps-requires-clause-firsts
add_steps-requires-clause-firsts c d to has = c.requires.firsts d to (subst (λ fs. Contains {X = ℕ × ℕ} fs (d, to)) c.as_slice.ensures has)

pub returns-clause-built : goal.returns-clause-built
returns-clause-built c ns at b =
    let n = c.args.node.now in
    let P : List Edge → List (ℕ × ℕ) → Type 0 = λ es fs. (s d : ℕ) (cost : List ℕ) (to : ℕ) → StepsBy es s d cost to ↔ (StepsBy c.args.machine.now.edges s d cost to ⊎ IsAnyStep c.args.state fs s d cost to) in
    let steps = subst (λ es. P es n.firsts) (sym c.add_stop.ensures.edges) (subst (P c.add_steps.new.machine.edges) c.as_slice.ensures c.in_ok-add_steps.ensures.steps) in
    let Q : List End → Type 0 = λ es. (s : ℕ) (cost : List ℕ) → EndsAt c.add_stop.new.machine.ends s cost ↔ (EndsAt es s cost ⊎ ((c.args.state ≡ s) × IsTrue n.ends × (cost ≡ []))) in
    let ends = subst Q c.add_steps.ensures.ends c.in_ok-add_stop.ensures.ends in
    built_more c.args.machine.now c.add_stop.new.machine ns n c.args.state at b steps ends
