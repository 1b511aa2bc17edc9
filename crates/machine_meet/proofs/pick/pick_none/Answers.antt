use Rattle.std.proofs.Common.{◌≡◌, ◌<◌, length, get_or, subst}
use Rattle.machine_meet.proofs.PickLemmas.{zeros-next}
use Rattle.machine_meet.proofs.pick.pick_none.Goals as goal

pub loop-entry-preserved : goal.loop-entry-preserved
loop-entry-preserved c =
    zeros-next c.args.want.now c.loop-entry.entry-index (subst (λ l. c.loop-entry.entry-index < length l) c.as_slice-entry-items.ensures c.loop-entry-test.true)
    (subst (λ l. get_or l c.loop-entry.entry-index 0 ≡ 0) c.as_slice-entry-items.ensures c.if-entry-ne0.false) c.loop-entry.invariant
