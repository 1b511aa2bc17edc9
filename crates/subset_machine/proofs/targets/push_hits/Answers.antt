use Rattle.std.proofs.Common.{◌++◌, map, ap, ◌∙◌}
use Rattle.std.proofs.lemmas.List.{take_all}
use Rattle.subset_machine.proofs.HitLemmas.{hit, mapped-behind}
use Rattle.subset_machine.proofs.targets.push_hits.Goals as goal

pub loop-mark-preserved : goal.loop-mark-preserved
loop-mark-preserved c =
    mapped-behind (hit c.args.leg.to) c.args.marks.now c.loop-mark.mark-index (0, 0) c.args.hits.now.items c.loop-mark.hits.items c.push.new.self.items c.loop-mark-test.true c.loop-mark.invariant c.in_ok-push.ensures.items

pub returns : goal.returns
returns c = c.loop-mark.invariant ∙ ap (λ l. c.args.hits.now.items ++ map (hit c.args.leg.to) l) (take_all c.loop-mark.mark-index c.args.marks.now c.loop-mark-test.false)
