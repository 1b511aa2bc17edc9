use Rattle.std.proofs.Common.{[], ◌∷◌, ◌++◌, ap, ◌∙◌}
use Rattle.regex_machine.proofs.StepLemmas.{one-end, no-end}
use Rattle.regex_machine.proofs.stepping.ends_if.Goals as goal
use Rattle.regex_machine.proofs.stepping.ends_if.Goals.{then-may_end+in_ok-push, else-may_end}

pub returns : goal.returns
returns c =
    elim c.if-may_end.branch [
      | then-may_end+in_ok-push w ↦ one-end c.args.may_end c.if-may_end.costs w.if-may_end.true
          (w.costs-is ∙ w.in_ok-push.ensures.ok ∙ ap (λ l. l ++ w.new.result ∷ []) c.new-costs.ensures ∙ ap (λ k. k ∷ []) w.new.ensures)
      | else-may_end w ↦ no-end c.args.may_end c.if-may_end.costs w.if-may_end.false (w.costs-is ∙ c.new-costs.ensures)
    ]
