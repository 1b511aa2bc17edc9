use Rattle.std.proofs.Common.{refl}
use Rattle.machine_meet.proofs.OverlapLemmas.{swapped}
use Rattle.machine_meet.proofs.PushLemmas.{pushed-none, pushed-at, pushed-all}
use Rattle.machine_meet.proofs.overlaps.push_turned.Goals as goal

pub loop-second-init : goal.loop-second-init
loop-second-init c = pushed-none swapped c.args.more.now c.args.more.now c.args.pairs.now.items

pub loop-second-preserved : goal.loop-second-preserved
loop-second-preserved c =
    pushed-at swapped c.args.more.now c.args.more.now c.args.pairs.now.items c.loop-second.pairs.items c.push.new.self.items c.loop-second.second-index (0, 0)
    c.loop-second-test.true c.loop-second.invariant c.in_ok-push.ensures.items

pub returns : goal.returns
returns c = pushed-all swapped c.args.more.now c.args.more.now c.args.pairs.now.items c.loop-second.pairs.items c.loop-second.second-index refl c.loop-second-test.false c.loop-second.invariant
