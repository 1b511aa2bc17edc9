use Rattle.std.proofs.Common.{◌≡◌, pos, ◌≤ℤ◌, arith}
use Rattle.std.specs.Int.{w128}
use Rattle.std.proofs.lemmas.Int.{ints, to_z-of_z}
use Rattle.farkas_check.proofs.Multiples.{zero_tells, remainder_tells}
use Rattle.farkas_check.proofs.leaf.is_multiple.Goals as goal

pub returns-then-divisor-eq0 : goal.returns-then-divisor-eq0
returns-then-divisor-eq0 c =
    let none : c.args.divisor ≡ pos 0 = omega (arith, ints) in
    rw none (zero_tells c.args.number c.ranges.number)

pub returns-else-divisor-eq0 : goal.returns-else-divisor-eq0
returns-else-divisor-eq0 c =
    let some : pos 1 ≤ℤ c.args.divisor = omega (arith, ints) in
    rw (to_z-of_z w128 c.args.number c.ranges.number, to_z-of_z w128 c.args.divisor c.ranges.divisor) (remainder_tells c.args.number c.args.divisor c.ranges.number c.ranges.divisor some)
