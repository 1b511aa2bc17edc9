use Rattle.std.proofs.Common.{ap, ◌∙◌}
use Rattle.cube_draft.specs.Numbers.{read_of}
use Rattle.cube_draft.proofs.Forms.{applied_kind, seen_all}
use Rattle.cube_draft.proofs.number_terms.+linearity.Goals as goal

pub linear_kind-returns-in-Apply : goal.linear_kind-returns-in-Apply
linear_kind-returns-in-Apply t c =
    applied_kind c.args.term.now c.in-Apply.op c.in-Apply.terms c.joining_of.result c.apply_joining.result c.in-Apply.is c.joining_of.ensures (c.apply_joining.ensures ∙ ap (λ us. read_of c.joining_of.result (seen_all us)) c.as_slice.ensures)
