use Rattle.std.proofs.Common.{◌∙◌}
use Rattle.literal_forms.specs.Shapes.{seen}
use Rattle.cube_draft.proofs.Quantities.{length_known, length_new}
use Rattle.cube_draft.proofs.meeting.DraftBuilder.count_length.Goals as goal

pub returns-in-Some : goal.returns-in-Some
returns-in-Some c = length_known c.args.self.now (seen c.args.term.now) c.is_text.result c.new-code.result c.is_text.ensures c.if-is_text.false (c.new-code.ensures ∙ c.in_ok-length_code.ensures) c.in-Some.field-0 c.in-Some.ensures

pub returns-in_ok-quantity-in-None : goal.returns-in_ok-quantity-in-None
returns-in_ok-quantity-in-None c =
    length_new c.args.self.now (seen c.args.term.now) c.is_text.result c.new-code.result c.is_text.ensures c.if-is_text.false (c.new-code.ensures ∙ c.in_ok-length_code.ensures) c.place.new.self c.quantity.new.self c.in_ok-place-in-None.place c.in-None.ensures c.in_ok-place-in-None.ensures.numbers
    c.in_ok-place-in-None.ensures.met c.in_ok-quantity-in-None.ensures
