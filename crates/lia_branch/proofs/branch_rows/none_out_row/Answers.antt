use Rattle.std.proofs.Common.{pos, refl, arith}
use Rattle.std.proofs.lemmas.Int.{ints}
use Rattle.lia_branch.proofs.branch_rows.none_out_row.Goals as goal

pub returns-clause-row : goal.returns-clause-row
returns-clause-row c = record {
  value = λ x. omega (arith, ints, c.in_ok-side_sum.ensures.value x (pos 0), c.in_ok-side_sum.ensures.constant);
  constant = c.in_ok-side_sum.ensures.constant;
  kind = refl;
}
