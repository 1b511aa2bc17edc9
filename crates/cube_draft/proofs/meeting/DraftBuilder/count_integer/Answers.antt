use Rattle.std.proofs.Common.{◌∙◌}
use Rattle.cube_draft.proofs.Quantities.{integer_known, integer_new}
use Rattle.cube_draft.proofs.meeting.DraftBuilder.count_integer.Goals as goal

pub returns-in-Some : goal.returns-in-Some
returns-in-Some c = integer_known c.args.self.now c.args.name.now c.new-code.result (c.new-code.ensures ∙ c.in_ok-integer_code.ensures) c.in-Some.field-0 c.in-Some.ensures

pub returns-in_ok-quantity-in-None : goal.returns-in_ok-quantity-in-None
returns-in_ok-quantity-in-None c =
    integer_new c.args.self.now c.args.name.now c.new-code.result (c.new-code.ensures ∙ c.in_ok-integer_code.ensures) c.quantity.new.self c.in_ok-name-in-None.name c.in-None.ensures c.in_ok-name-in-None.ensures c.in_ok-quantity-in-None.ensures
