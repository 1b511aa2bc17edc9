use Rattle.std.proofs.Common.{refl, arith}
use Rattle.regex_machine.proofs.AntichainLemmas.{stands-as, stand-next, stand-all}
use Rattle.regex_machine.proofs.emptiness.stand_for.Goals as goal

pub loop-at-preserved : goal.loop-at-preserved
loop-at-preserved c =
    let in_sides = c.loop-at-test.true in
    let in_place = c.if-place-sides.false in
    let in_other = c.if-other-sides.false in
    stand-next c.args.sides.now c.args.place.now c.args.other.now c.loop-at.at c.index-sides-at.result c.index-place-at.result c.index-other-at.result
    in_sides (omega (arith, in_sides, in_place)) (omega (arith, in_sides, in_other)) c.index-sides-at.is c.index-place-at.is c.index-other-at.is c.loop-at.invariant
    (stands-as c.index-sides-at.result _ c.index-place-at.result c.as_slice.result.now c.index-other-at.result c.as_slice-in-loop-at.result.now c.index-sides-at.is c.as_slice.ensures c.as_slice-in-loop-at.ensures (c.if-not-stands_for.ensures refl))

pub returns : goal.returns
returns c = λ told. stand-all c.args.sides.now c.args.place.now c.args.other.now c.loop-at.at c.loop-at-test.false c.if-place-sides.false c.if-other-sides.false c.loop-at.invariant
