use Rattle.std.proofs.Common.{IfOk, sym, subst}
use Rattle.decide.specs.Jobs.{IsOutcome}
use Rattle.decide.proofs.Models.{refused-outcome}
use Rattle.decide.proofs.cube_job.crooked_answer.Goals as goal

pub returns-then-refuted : goal.returns-then-refuted
returns-then-refuted c = subst (IsOutcome c.args.shared.now.terms.now c.args.cube.now) (sym c.without_leaf.ensures) (record {
  right = c.in_ok-refuted.ensures c.if-refuted.true;
  decided = λ must. tt;
})

pub returns : goal.returns
returns c =
    subst (λ r. IfOk r (IsOutcome c.args.shared.now.terms.now c.args.cube.now)) (sym c.refuse.ensures)
    (refused-outcome c.refusals_have_no_flat_cube.ensures c.args.shared.now.terms.now c.args.cube.now c.args.fault c.requires.refused)
