use Rattle.std.proofs.Common.{[], ◌∷◌, ◌++◌, Contains, ◌↔◌, ap, ◌∙◌, subst}
use Rattle.subset_machine.specs.Subsets.{EndsInSome}
use Rattle.std.specs.Prelude.{IsTrue}
use Rattle.subset_machine.proofs.SubsetRuns.{ends-some, ends-none-of}
use Rattle.subset_machine.proofs.subset.SubsetMachine.ends.Goals as goal
use Rattle.subset_machine.proofs.subset.SubsetMachine.ends.Goals.{then-may_end-self+in_ok-push, else-may_end-self}

pub may_end-requires-clause-below : goal.may_end-requires-clause-below
may_end-requires-clause-below c s i = c.requires.below s (subst (λ l. Contains l s) c.as_slice.ensures i)

pub returns : goal.returns
returns c =
    let m = c.args.self.now.machine.now in
    let says = subst (λ l. IsTrue c.may_end.result ↔ EndsInSome m.ends l) c.as_slice.ensures c.may_end.ensures in
    elim c.if-may_end-self.branch [
      | then-may_end-self+in_ok-push w ↦ ends-some c.args.self.now.negated c.may_end.result m.ends c.args.at.now c.if-may_end-self.costs says w.if-may_end-self.true
          (w.costs-is ∙ w.in_ok-push.ensures.ok ∙ ap (λ l. l ++ w.new.result ∷ []) c.new-costs.ensures ∙ ap (λ k. k ∷ []) w.new.ensures)
      | else-may_end-self w ↦ ends-none-of c.args.self.now.negated c.may_end.result m.ends c.args.at.now c.if-may_end-self.costs says w.if-may_end-self.false
          (w.costs-is ∙ c.new-costs.ensures)
    ]
