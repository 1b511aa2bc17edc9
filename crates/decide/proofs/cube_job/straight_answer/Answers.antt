use Rattle.std.proofs.Common.{subst, sym}
use Rattle.decide.specs.Jobs.{IsOutcome}
use Rattle.decide.proofs.Models.{none-of}
use Rattle.decide.proofs.cube_job.straight_answer.Goals as goal

pub returns-then-refuted : goal.returns-then-refuted
returns-then-refuted c = subst (IsOutcome c.args.shared.now.terms.now c.args.cube.now) (sym c.without_leaf.ensures) (record {
  right = none-of c.args.shared.now.terms.now c.args.cube.now c.args.flat c.requires.asked c.requires.flattening c.flat_cubes_are_exact.ensures (c.in_ok-refuted.ensures c.if-refuted.true);
  decided = λ must. tt;
})
