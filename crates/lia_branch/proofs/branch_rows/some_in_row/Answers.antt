use Rattle.std.proofs.Common.{pos, refl, arith}
use Rattle.std.proofs.lemmas.Int.{ints}
use Rattle.lia_branch.proofs.branch_rows.some_in_row.Goals as goal

pub returns-clause-row : goal.returns-clause-row
returns-clause-row c = record {
  value = λ x. omega (arith, ints, c.in_ok-coefficients.ensures.value x (pos 0));
  constant = refl;
  kind = refl;
}
