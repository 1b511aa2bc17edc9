use Rattle.std.proofs.Common.{sym}
use Rattle.regex_machine.proofs.ReversedLemmas.{reversed-none, reversed-more, reversed-all}
use Rattle.regex_machine.proofs.differences.reversed_all.Goals as goal

pub loop-part-init : goal.loop-part-init
loop-part-init c = reversed-none c.args.parts.now c.new-turned.result c.new-turned.ensures

pub loop-part-preserved : goal.loop-part-preserved
loop-part-preserved c =
    reversed-more c.args.parts.now c.loop-part.part-index c.part-item.result c.loop-part.turned c.push.new.self c.in_ok-back.back c.loop-part-test.true c.part-item.is c.in_ok-back.ensures
    c.in_ok-push.ensures.ok c.loop-part.invariant

pub returns : goal.returns
returns c = reversed-all c.args.parts.now c.loop-part.part-index c.loop-part.turned c.loop-part-test.false c.loop-part.invariant

pub reversed-requires : goal.reversed-requires
reversed-requires c = c.requires c.part-item.result (c.loop-part.part-index, c.loop-part-test.true, sym c.part-item.is)
