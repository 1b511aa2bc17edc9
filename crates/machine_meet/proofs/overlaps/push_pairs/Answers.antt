use Rattle.std.proofs.Common.{refl}
use Rattle.machine_meet.specs.declared.overlaps.MoveInterval.{MoveInterval}
use Rattle.machine_meet.proofs.OverlapLemmas.{with_place}
use Rattle.machine_meet.proofs.PushLemmas.{pushed-none, pushed-at, pushed-all}
use Rattle.machine_meet.proofs.overlaps.push_pairs.Goals as goal

pub loop-inner-init : goal.loop-inner-init
loop-inner-init c = pushed-none (with_place c.args.place) c.args.spans.now c.args.spans.now c.args.pairs.now.items

pub loop-inner-preserved : goal.loop-inner-preserved
loop-inner-preserved c =
    let none : MoveInterval = record { low = 0; high = 0; place = 0 } in
    pushed-at (with_place c.args.place) c.args.spans.now c.args.spans.now c.args.pairs.now.items c.loop-inner.pairs.items c.push.new.self.items c.loop-inner.inner-index none
    c.loop-inner-test.true c.loop-inner.invariant c.in_ok-push.ensures.items

pub returns : goal.returns
returns c =
    pushed-all (with_place c.args.place) c.args.spans.now c.args.spans.now c.args.pairs.now.items c.loop-inner.pairs.items c.loop-inner.inner-index refl c.loop-inner-test.false c.loop-inner.invariant
