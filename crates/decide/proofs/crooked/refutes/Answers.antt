use Rattle.decide.proofs.Models.{literals-sorted}
use Rattle.decide.proofs.crooked.refutes.Goals as goal

pub straight_answer-requires-clause-apart : goal.straight_answer-requires-clause-apart
straight_answer-requires-clause-apart c = c.in-Ok.ensures.flat.1 (literals-sorted c.args.shared.now.terms.now c.args.part.now c.requires)
