use Rattle.parikh_flow.specs.Building.{AreOpened}
use Rattle.parikh_flow.proofs.balances.opened_forms.Given as goal

abbrev pub invariant-loop-state : goal.invariant-loop-state
invariant-loop-state l = AreOpened l.state l.forms.items
