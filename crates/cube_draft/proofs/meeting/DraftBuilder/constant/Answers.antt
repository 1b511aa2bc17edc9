use Rattle.std.proofs.Common.{inl, inr}
use Rattle.cube_draft.proofs.Placing.{constant_is_known, constant_is_new}
use Rattle.cube_draft.proofs.meeting.DraftBuilder.constant.Goals as goal

pub returns-in-Known-clause-met : goal.returns-in-Known-clause-met
returns-in-Known-clause-met c = elim c.in-Known.is [
  | inl e ↦ constant_is_known c.args.self.now c.seek.new.self c.args.term.now c.args.name.now c.requires.0 c.in_ok-place.field-0 c.in-Known.place c.requires.1 c.in_ok-place.ensures.sought e
  | inr e ↦ constant_is_new c.args.self.now c.seek.new.self c.args.term.now c.args.name.now c.requires.0 c.in_ok-place.field-0 c.in-Known.place c.requires.1 c.in_ok-place.ensures.sought e
]

pub returns-in-Known-2-clause-met : goal.returns-in-Known-2-clause-met
returns-in-Known-2-clause-met c = elim c.in-Known.is [
  | inl e ↦ constant_is_known c.args.self.now c.seek.new.self c.args.term.now c.args.name.now c.requires.0 c.in_ok-place.field-0 c.in-Known.place c.requires.1 c.in_ok-place.ensures.sought e
  | inr e ↦ constant_is_new c.args.self.now c.seek.new.self c.args.term.now c.args.name.now c.requires.0 c.in_ok-place.field-0 c.in-Known.place c.requires.1 c.in_ok-place.ensures.sought e
]
