use Rattle.std.proofs.Common.{IfOk, sym, subst}
use Rattle.decide.specs.Jobs.{IsOutcome}
use Rattle.decide.proofs.Models.{literals-sorted, refused-outcome}
use Rattle.decide.proofs.cube_job.answer_as_it_stands.Goals as goal

pub returns-in-Err : goal.returns-in-Err
returns-in-Err c =
    subst (λ r. IfOk r (IsOutcome c.args.shared.now.terms.now c.args.cube.now)) (sym c.refuse.ensures)
    (refused-outcome c.refusals_have_no_flat_cube.ensures c.args.shared.now.terms.now c.args.cube.now c.in-Err.fault c.in-Err.ensures.flat)

pub flat_answer-requires-clause-apart : goal.flat_answer-requires-clause-apart
flat_answer-requires-clause-apart c = c.in-Ok.ensures.flat.1 (literals-sorted c.args.shared.now.terms.now c.args.cube.now c.requires.asked)
