use Rattle.std.proofs.Common.{ap, sym, ◌∙◌}
use Rattle.literal_forms.specs.Linear.{written}
use Rattle.literal_forms.specs.Shapes.{seen}
use Rattle.cube_draft.specs.declared.meeting.DraftBuilder.{DraftBuilder}
use Rattle.cube_draft.proofs.Placing.{sought_known, sought_new}
use Rattle.cube_draft.proofs.meeting.DraftBuilder.seek.Goals as goal

pub file-requires : goal.file-requires
file-requires c = sym c.in-None.ensures

pub returns-in-Some-clause-sought : goal.returns-in-Some-clause-sought
returns-in-Some-clause-sought c = sought_known c.args.self.now (written (seen c.args.term.now)) c.new-code.result c.in-Some.place (c.new-code.ensures ∙ c.in_ok-string_code.ensures) c.requires.text c.in-Some.ensures

pub returns-in_ok-place-in-None-clause-sought : goal.returns-in_ok-place-in-None-clause-sought
returns-in_ok-place-in-None-clause-sought c =
    sought_new c.args.self.now c.file.new.self (written (seen c.args.term.now)) c.new-code.result c.args.name c.in_ok-place-in-None.place (c.new-code.ensures ∙ c.in_ok-string_code.ensures) c.requires.text c.in-None.ensures c.requires.name
    c.in_ok-place-in-None.ensures.place c.in_ok-place-in-None.ensures.filed

pub returns-in_ok-place-in-None-clause-numbers : goal.returns-in_ok-place-in-None-clause-numbers
returns-in_ok-place-in-None-clause-numbers c = ap (λ (m : DraftBuilder). m.numbers) c.in_ok-place-in-None.ensures.filed
