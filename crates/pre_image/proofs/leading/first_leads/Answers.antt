use Rattle.std.proofs.Common.{◌++◌, ◌∷◌, [], sym, ap, ◌∙◌, subst}
use Rattle.machine_core.specs.Costs.{zeros}
use Rattle.pre_image.specs.Leading.{spelled, AreLeads}
use Rattle.pre_image.proofs.LeadLemmas.{leads-first, between-set}
use Rattle.pre_image.proofs.leading.first_leads.Goals as goal

pub returns : goal.returns
returns c =
    let on = c.in_ok-on.on in
    let cost = c.in_ok-cost.cost in
    let m = c.args.target.now in
    let first = leads-first m c.args.from c.args.low c.args.high on (between-set on c.args.low c.args.high c.in_ok-on.ensures.set) (c.in_ok-on.ensures.inhabited c.requires.order)
    cost (c.in_ok-cost.ensures ∙ ap zeros c.registers.ensures) in
    subst (AreLeads m c.args.from c.args.low c.args.high (spelled [])) (sym (c.in_ok-push.ensures.ok ∙ ap (λ l. l ++ record { on = on; cost = cost; to = c.args.from } ∷ []) c.new-leads.ensures)) first
