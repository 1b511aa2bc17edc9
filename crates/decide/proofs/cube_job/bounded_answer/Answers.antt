use Rattle.std.proofs.Common.{subst}
use Rattle.cube_search.specs.Answers.{IsCubeAnswer}
use Rattle.decide.proofs.Models.{none-of, sat-of}
use Rattle.decide.proofs.Rewritten.{apart-stays, few-stays, model-back, none-back, only-back}
use Rattle.decide.proofs.cube_job.bounded_answer.Goals as goal

pub returns-in-Sat : goal.returns-in-Sat
returns-in-Sat c = record {
  right = (let found = subst (IsCubeAnswer c.in_ok-new.new) c.in-Sat.is c.in_ok-model.ensures.right in
      sat-of c.args.shared.now.terms.now c.args.cube.now c.args.flat c.requires.asked c.requires.flattening c.flat_cubes_are_exact.ensures c.names_are_sorted.ensures c.in-Sat.model c.in_ok-full-in-Sat.full
      (model-back c.args.flat c.in_ok-new.new c.in_ok-new.ensures.rewriting c.in-Sat.model found.0) (only-back c.args.flat c.in_ok-new.new c.in_ok-new.ensures.rewriting c.in-Sat.model found.1) (c.in_ok-full-in-Sat.ensures c.requires.asked.one_sort));
  decided = λ must. tt;
}

pub returns-in-Unsat : goal.returns-in-Unsat
returns-in-Unsat c = record {
  right = none-of c.args.shared.now.terms.now c.args.cube.now c.args.flat c.requires.asked c.requires.flattening c.flat_cubes_are_exact.ensures
      (none-back c.args.flat c.in_ok-new.new c.in_ok-new.ensures.rewriting (subst (IsCubeAnswer c.in_ok-new.new) c.in-Unsat.is c.in_ok-model.ensures.right));
  decided = λ must. tt;
}

pub cube_answer-requires-clause-apart : goal.cube_answer-requires-clause-apart
cube_answer-requires-clause-apart c = apart-stays c.args.flat c.in_ok-new.new c.in_ok-new.ensures.rewriting c.requires.apart

pub cube_answer-requires-clause-few : goal.cube_answer-requires-clause-few
cube_answer-requires-clause-few c = few-stays c.args.flat c.in_ok-new.new c.in_ok-new.ensures.rewriting c.requires.few
