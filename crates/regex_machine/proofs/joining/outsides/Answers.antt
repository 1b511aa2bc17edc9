use Rattle.std.proofs.Common.{subst, sym}
use Rattle.regex_machine.specs.OtherSides.{AreOtherSides}
use Rattle.regex_machine.proofs.SideLemmas.{others-none, others-more, others-all}
use Rattle.regex_machine.proofs.joining.outsides.Goals as goal

pub loop-number-init : goal.loop-number-init
loop-number-init c = others-none c.args.parts.now c.new-sides.result c.new-sides.ensures

pub outside-side-requires : goal.outside-side-requires
outside-side-requires c = c.requires c.index-parts-number.result (c.loop-number.number, c.loop-number-test.true, sym c.index-parts-number.is)

pub loop-number-preserved : goal.loop-number-preserved
loop-number-preserved c =
    subst (AreOtherSides _) (sym c.in_ok-push.ensures.ok)
    (others-more c.args.parts.now c.loop-number.number c.index-parts-number.result c.loop-number.sides c.outside-side.result c.loop-number.auto.number c.loop-number-test.true c.index-parts-number.is c.outside-side.ensures c.loop-number.invariant)

pub returns : goal.returns
returns c = others-all c.args.parts.now c.loop-number.number c.loop-number.sides c.loop-number-test.false c.loop-number.invariant
