use Rattle.std.proofs.Common.{get_or, refl}
use Rattle.machine_meet.specs.declared.overlaps.MoveInterval.{MoveInterval}
use Rattle.machine_meet.proofs.OverlapLemmas.{begun-more, begun-done}
use Rattle.machine_meet.proofs.overlaps.pair_within.Goals as goal

pub loop-outer-preserved : goal.loop-outer-preserved
loop-outer-preserved c =
    let none : MoveInterval = record { low = 0; high = 0; place = 0 } in
    begun-more c.args.spans.now c.args.around.now c.beginning.result.now c.loop-outer.pairs.items c.push_pairs.new.pairs.items c.loop-outer.outer-index
    (get_or c.args.around.now c.loop-outer.outer-index none) none c.loop-outer-test.true refl c.beginning.ensures c.in_ok-push_pairs.ensures c.loop-outer.invariant

pub returns : goal.returns
returns c = begun-done c.args.spans.now c.args.around.now c.loop-outer.pairs.items c.loop-outer.outer-index c.loop-outer-test.false c.loop-outer.invariant
