use Rattle.machine_meet.proofs.OptionLemmas.{costs-start, costs-next, costs-same, costs-all}
use Rattle.std.proofs.Common.{◌∙◌}
use Rattle.machine_meet.proofs.options.costs_to.Goals.{then-leads+in_ok-copy+in_ok-push, else-leads}
use Rattle.machine_meet.proofs.options.costs_to.Goals as goal

pub loop-step-init : goal.loop-step-init
loop-step-init g c = rw c.new-costs.ensures (costs-start c.args.c c.args.to.now)

pub loop-step-preserved : goal.loop-step-preserved
loop-step-preserved g c = elim c.if-leads.branch [
  | then-leads+in_ok-copy+in_ok-push w ↦
      costs-next c.args.c c.args.to.now c.args.moves.now c.loop-step.costs c.if-leads.costs c.loop-step.step-index c.step-item.result w.in_ok-copy.field-0
      c.loop-step-test.true c.step-item.is c.loop-step.invariant (c.leads.ensures.0 w.if-leads.true) w.in_ok-copy.ensures (w.costs-is ∙ w.in_ok-push.ensures.ok)
  | else-leads w ↦
      costs-same c.args.c c.args.to.now c.args.moves.now c.loop-step.costs c.if-leads.costs c.loop-step.step-index c.step-item.result
      c.loop-step-test.true c.step-item.is c.loop-step.invariant (λ p. let f = w.if-leads.false in let t = c.leads.ensures.1 p in cc) w.costs-is
]

pub returns : goal.returns
returns g c = costs-all c.args.c c.args.to.now c.args.moves.now c.loop-step.costs c.loop-step.step-index c.loop-step-test.false c.loop-step.invariant
