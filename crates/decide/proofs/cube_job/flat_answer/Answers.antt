use Rattle.std.proofs.Common.{subst}
use Rattle.cube_search.specs.Answers.{IsCubeAnswer, IsDecidedCube}
use Rattle.decide.proofs.Models.{cause-of, must-of, none-of, sat-of}
use Rattle.decide.proofs.cube_job.flat_answer.Goals as goal

pub cube_answer-requires-clause-bare : goal.cube_answer-requires-clause-bare
cube_answer-requires-clause-bare c = c.rows_count.ensures c.args.cube.now.literals c.args.flat.now c.requires.flattening

pub returns-in-Sat : goal.returns-in-Sat
returns-in-Sat c = record {
  right = (let found = subst (IsCubeAnswer c.args.flat.now) c.in-Sat.is c.in_ok-model.ensures.right in
      sat-of c.args.shared.now.terms.now c.args.cube.now c.args.flat.now c.requires.asked c.requires.flattening c.flat_cubes_are_exact.ensures c.names_are_sorted.ensures c.in-Sat.model c.in_ok-full-in-Sat.full
      found.0 found.1 (c.in_ok-full-in-Sat.ensures c.requires.asked.one_sort));
  decided = λ must. tt;
}

pub returns-in-Unsat : goal.returns-in-Unsat
returns-in-Unsat c = record {
  right = none-of c.args.shared.now.terms.now c.args.cube.now c.args.flat.now c.requires.asked c.requires.flattening c.flat_cubes_are_exact.ensures (subst (IsCubeAnswer c.args.flat.now) c.in-Unsat.is c.in_ok-model.ensures.right);
  decided = λ must. tt;
}

pub returns : goal.returns
returns c = record {
  right = cause-of c.args.shared.now.terms.now c.args.cube.now c.args.flat.now c.requires.asked c.requires.flattening c.flat_cubes_are_exact.ensures c.in-Open.reason (subst (IsCubeAnswer c.args.flat.now) c.in-Open.is c.in_ok-model.ensures.right);
  decided = λ must. subst IsDecidedCube c.in-Open.is (c.in_ok-model.ensures.decided (must-of c.flat_cubes_are_unique.ensures c.args.cube.now c.args.flat.now c.requires.flattening must));
}
