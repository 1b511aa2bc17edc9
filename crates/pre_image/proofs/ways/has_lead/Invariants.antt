use Rattle.std.proofs.Common.{◌↔◌, take, Any}
use Rattle.pre_image.specs.Lifts.{EndsAs}
use Rattle.pre_image.proofs.ways.has_lead.Given as goal

abbrev pub invariant-loop-lead : goal.invariant-loop-lead
invariant-loop-lead l = ⊥ ↔ Any (EndsAs l.to l.cost) (take l.lead-index l.leads)
