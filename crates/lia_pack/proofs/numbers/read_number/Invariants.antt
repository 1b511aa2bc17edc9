use Rattle.std.proofs.Common.{◌≡◌, length}
use Rattle.lia_pack.specs.Numbers.{numbers_from}
use Rattle.lia_pack.proofs.numbers.read_number.Given as goal

abbrev pub invariant-loop-first : goal.invariant-loop-first
invariant-loop-first l = numbers_from l.high l.left ≡ numbers_from 0 l.bytes

abbrev pub decreases-loop-first : goal.decreases-loop-first
decreases-loop-first l = length l.left
