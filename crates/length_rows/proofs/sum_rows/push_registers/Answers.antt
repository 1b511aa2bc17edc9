use Rattle.std.proofs.Common.{arith, get_or, ◌+◌}
use Rattle.length_rows.proofs.WordLemmas.{register-length}
use Rattle.length_rows.proofs.sum_rows.push_registers.Goals as goal

pub loop-at-preserved : goal.loop-at-preserved
loop-at-preserved c = λ x words is has h.
    c.in_ok-push_sum.ensures x words (register-length words (x (c.args.first + c.loop-at.at)) (get_or c.args.registers.now c.loop-at.at 0) c.from_ref.result.now (is c.loop-at.at (omega arith)) c.from_ref.ensures.value) has (c.loop-at.invariant x words is has h)
