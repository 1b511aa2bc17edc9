use Rattle.pre_image.specs.Lifts.{EndsAs}
use Rattle.pre_image.proofs.MoreLemmas.{more-none, all-alone}
use Rattle.pre_image.proofs.ways.has_lead.Goals as goal

pub loop-lead-preserved : goal.loop-lead-preserved
loop-lead-preserved c =
    more-none (EndsAs c.args.to c.args.cost.now) c.args.leads.now c.loop-lead.lead-index c.lead-item.result c.loop-lead-test.true c.lead-item.is ⊥ c.loop-lead.invariant
    (λ e. let t = c.ends_as.ensures.1 e in let f = c.if-ends_as.false in cc)

pub returns : goal.returns
returns c =
    let none = all-alone (EndsAs c.args.to c.args.cost.now) c.args.leads.now c.loop-lead.lead-index c.loop-lead-test.false ⊥ c.loop-lead.invariant in
    (λ t. cc, λ a. absurd (none.1 a))
