use Rattle.leaf_solve.proofs.RegionLemmas.{found-hit, none-found, none-held}
use Rattle.leaf_solve.proofs.SystemLemmas.{names}
use Rattle.leaf_solve.proofs.rows.search_region.Goals as goal

pub search-requires : goal.search-requires
search-requires c = λ e. record {
  registers = c.requires.registers;
  integer_sides = c.requires.sides e;
  unknowns = names c.args.question.now.machines.now c.args.question.now.integers c.args.question.now.rows.now c.args.question.now.region.now c.args.question.now.small c.args.question.now.reach c.requires;
  fits = c.requires.fits e;
}

pub returns-in-Some-clause-answer : goal.returns-in-Some-clause-answer
returns-in-Some-clause-answer c =
    let f = found-hit c.args.question.now.machines.now c.args.question.now.integers c.args.question.now.rows.now c.args.question.now.region.now c.args.question.now.small c.args.question.now.reach c.requires
    c.in-Some.hit.runs c.in-Some.hit.integers (rw c.in-Some.is at c.in_ok-found.ensures) in
    record { is_hit = f.0; within = f.1 }

pub returns-then-question-clause-answer : goal.returns-then-question-clause-answer
returns-then-question-clause-answer c = record {
  none = none-held c.args.question.now.machines.now c.args.question.now.integers c.args.question.now.rows.now c.args.question.now.region.now c.args.question.now.small c.args.question.now.reach c.requires
      (rw c.in-None.is at c.in_ok-found.ensures) c.if-question.true;
  shown = c.if-question.true;
}

pub returns-else-question-clause-answer : goal.returns-else-question-clause-answer
returns-else-question-clause-answer c = (
  c.if-question.false,
  none-found c.args.question.now.machines.now c.args.question.now.integers c.args.question.now.rows.now c.args.question.now.region.now c.args.question.now.small c.args.question.now.reach c.requires
      (rw c.in-None.is at c.in_ok-found.ensures),
)
