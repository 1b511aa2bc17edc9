use Rattle.std.proofs.Common.{arith}
use Rattle.std.proofs.lemmas.Int.{ints}
use Rattle.length_rows.proofs.part_rows.push_exact.Goals as goal

pub returns : goal.returns
returns c = λ x e h. c.in_ok-push_most.ensures x (omega (arith, ints, e)) (c.in_ok-push_least.ensures x (omega (arith, ints, e)) h)
