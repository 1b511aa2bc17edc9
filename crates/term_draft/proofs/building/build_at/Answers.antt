use Rattle.std.proofs.Common.{◌≡◌, IfOk, List, subst}
use Rattle.sv_terms.specs.declared.entry.Body.{Body}
use Rattle.term_draft.specs.Drafts.{at_place}
use Rattle.term_draft.proofs.building.build_at.Goals as goal

pub returns : goal.returns
returns c = subst (λ (done : List Body). IfOk c.build.result (λ x. x ≡ at_place done c.args.place)) c.parts.ensures c.build.ensures
