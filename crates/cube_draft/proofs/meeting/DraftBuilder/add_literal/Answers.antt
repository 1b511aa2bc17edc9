use Rattle.std.proofs.Common.{refl, subst, sym}
use Rattle.literal_forms.specs.Shapes.{seen, text}
use Rattle.cube_draft.specs.Gathered.{IsLiteralAdded}
use Rattle.flat_cubes.specs.Said.{string_said}
use Rattle.cube_draft.specs.declared.literals.LiteralReading.TheVariants as kind
use Rattle.cube_draft.proofs.Stated.{hold_other, hold_same}
use Rattle.cube_draft.proofs.meeting.DraftBuilder.add_literal.Goals as goal

pub returns-then-positive : goal.returns-then-positive
returns-then-positive c =
    subst (λ b. IsLiteralAdded c.args.self.now c.hold.new.self (string_said (text c.args.word.now) (seen c.args.term.now) b) kind.Written) (sym c.if-positive.true)
    (hold_same c.args.self.now c.hold.new.self c.args.term.now c.args.word.now c.in-Text.other c.same-same.result c.in-Text.is c.same-same.ensures c.hold.ensures)

pub returns-in-Text : goal.returns-in-Text
returns-in-Text c =
    subst (λ b. IsLiteralAdded c.args.self.now c.hold-in-Text.new.self (string_said (text c.args.word.now) (seen c.args.term.now) b) kind.Written) (sym c.if-positive.false)
    (hold_other c.args.self.now c.hold-in-Text.new.self c.args.term.now c.args.word.now c.in-Text.other c.same-same.result _ c.in-Text.is c.same-same.ensures refl c.hold-in-Text.ensures)
