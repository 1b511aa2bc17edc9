use Rattle.std.proofs.Common.{arith}
use Rattle.lia_pack.proofs.Bytes.{next_fits}
use Rattle.lia_pack.proofs.numbers.read_number.Goals as goal

pub overflow_mul-high : goal.overflow_mul-high
overflow_mul-high c =
    let k = next_fits c.args.bytes.now c.loop-first.left.now c.in-Some.rest.now c.loop-first.high c.in-Some.first.now c.in-Some.ensures.cases.0 (omega (arith, c.if-first-lt128.false)) c.loop-first.invariant c.requires in
    omega (arith, k)

pub overflow_add-high : goal.overflow_add-high
overflow_add-high c =
    let k = next_fits c.args.bytes.now c.loop-first.left.now c.in-Some.rest.now c.loop-first.high c.in-Some.first.now c.in-Some.ensures.cases.0 (omega (arith, c.if-first-lt128.false)) c.loop-first.invariant c.requires in
    omega (arith, k)
