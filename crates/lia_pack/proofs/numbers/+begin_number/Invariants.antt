use Rattle.lia_pack.proofs.numbers.+begin_number.Given as goal

abbrev pub decreases-begin_number : goal.decreases-begin_number
decreases-begin_number a = a.high
