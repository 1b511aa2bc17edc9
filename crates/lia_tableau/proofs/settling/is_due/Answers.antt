use Rattle.std.proofs.Common.{false, ⊎_elim, ap, sym}
use Rattle.lia_tableau.proofs.Statuses.{is_due, due_or_not}
use Rattle.lia_tableau.proofs.settling.is_due.Goals as goal

pub returns-in-Divisor : goal.returns-in-Divisor
returns-in-Divisor c = due_or_not c.args.tableau.now c.status.result false c.status.ensures.shows (⊎_elim (λ d. sym (ap is_due d.1)) (λ r. ⊎_elim (λ k. sym (ap is_due k.1)) (λ p. sym (ap is_due p)) r) c.in-Divisor.is)
