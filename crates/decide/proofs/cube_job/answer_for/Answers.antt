use Rattle.std.proofs.Common.{sym, subst}
use Rattle.decide.specs.Jobs.{IsOutcome}
use Rattle.bool_cubes.specs.Contradictions.{IsContradictory}
use Rattle.decide.proofs.Models.{literals-sorted}
use Rattle.decide.proofs.cube_job.answer_for.Goals as goal

pub straight_answer-requires-clause-apart : goal.straight_answer-requires-clause-apart
straight_answer-requires-clause-apart c = c.in-Ok.ensures.flat.1 (literals-sorted c.args.shared.now.terms.now c.args.cube.now c.requires.asked)

pub returns-then-found : goal.returns-then-found
returns-then-found c =
    let h = subst IsContradictory c.as_slice.ensures (c.in_ok-found.ensures c.if-found.true) in
    subst (IsOutcome c.args.shared.now.terms.now c.args.cube.now) (sym c.without_leaf.ensures) (record {
      right = λ values t. c.contradictions_are_false.ensures values c.args.cube.now.literals h t.holds;
      decided = λ must. tt;
    })
