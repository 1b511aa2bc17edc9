use Rattle.std.proofs.Common.{arith}
use Rattle.sv_word.proofs.Apart.{between-apart}
use Rattle.sv_word.proofs.ComplementLemmas.{complementing-at, complement-apart}
use Rattle.sv_word.proofs.ranges.Ranges.complement.Goals as goal

pub loop-pair-preserved : goal.loop-pair-preserved
loop-pair-preserved c =
    rw c.in_ok-push_gap.ensures (complementing-at c.as_slice-pair-items.result.now c.loop-pair.pairs.items c.loop-pair.pair-index c.loop-pair.from c.loop-pair.invariant (omega arith))

pub invariant_of-result : goal.invariant_of-result
invariant_of-result c =
    rw c.in_ok-push_gap-2.ensures (
    between-apart 0 _ 0x30001
    (complement-apart c.as_slice-pair-items.result.now c.loop-pair.pairs.items c.loop-pair.pair-index c.loop-pair.from c.loop-pair.invariant (omega arith)))
