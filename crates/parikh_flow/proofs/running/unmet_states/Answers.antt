use Rattle.std.proofs.Common.{◌<◌, ◌↔◌, ℕ, Contains}
use Rattle.std.proofs.lemmas.Result.{IfOk-weaker}
use Rattle.parikh_flow.specs.Tours.{IsMet}
use Rattle.parikh_flow.proofs.MarkLemmas.{unmet-members}
use Rattle.parikh_flow.proofs.running.unmet_states.Goals as goal

pub returns-clause-members : goal.returns-clause-members
returns-clause-members c =
    IfOk-weaker c.unmarked_states.result _ (λ set. (s : ℕ) → Contains set s ↔ ((s < c.args.machine.now.states) × (IsMet c.args.machine.now.edges c.args.back.now s → ⊥)))
    (λ set h. unmet-members c.args.machine.now c.args.back.now c.in_ok-met.met set c.in_ok-met.ensures.met (rw (c.as_slice.ensures, c.states.ensures) at h))
    c.unmarked_states.ensures.members
