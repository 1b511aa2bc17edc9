use Rattle.std.proofs.Common.{ℕ, pos, get_or, ◌<◌}
use Rattle.sv_linear.specs.Divisors.{Divides}
use Rattle.farkas_check.proofs.leaf_test.are_multiples.Given as goal

abbrev pub invariant-loop-number : goal.invariant-loop-number
invariant-loop-number l = (k : ℕ) → k < l.number-index → Divides l.divisor (get_or l.numbers k (pos 0))
