use Rattle.std.proofs.Common.{true, false}
use Rattle.term_draft.proofs.Calling.{term-stands}
use Rattle.term_draft.proofs.draft.TermDraft.term_place.Goals as goal

pub returns-then-part : goal.returns-then-part
returns-then-part c = term-stands c.self.inside.parts c.args.self.now c.args.place c.in-Some.part.now true c.self.invariant c.self.view_is c.in-Some.ensures.value c.if-part.true

pub returns-else-part : goal.returns-else-part
returns-else-part c = term-stands c.self.inside.parts c.args.self.now c.args.place c.in-Some.part.now false c.self.invariant c.self.view_is c.in-Some.ensures.value c.if-part.false
