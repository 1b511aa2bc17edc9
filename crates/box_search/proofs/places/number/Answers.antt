use Rattle.std.proofs.Common.{◌^◌, arith}
use Rattle.box_search.proofs.PlaceLemmas.{few-before}
use Rattle.box_search.proofs.places.number.Goals as goal

pub overflow_add-uppers : goal.overflow_add-uppers
overflow_add-uppers c =
    let few = few-before c.args.uppers.now c.loop-at.at c.loop-at-test.true c.args.totals.now c.if-totals-uppers.false c.loop-at.invariant.within c.if-totals-at.false c.loop-at.invariant.below (2 ^ 64) c.requires in
    let small = few.0 in
    omega arith

pub digits-number-requires : goal.digits-number-requires
digits-number-requires c =
    let few = few-before c.args.uppers.now c.loop-at.at c.loop-at-test.true c.args.totals.now c.if-totals-uppers.false c.loop-at.invariant.within c.if-totals-at.false c.loop-at.invariant.below (2 ^ 64) c.requires in
    rw c.loop-at.invariant.number few.1
