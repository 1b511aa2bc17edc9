use Rattle.machine_core.proofs.PushLemmas.{took-more}
use Rattle.machine_core.proofs.index.IndexCopied.copy.Goals as goal

pub loop-row-preserved : goal.loop-row-preserved
loop-row-preserved c =
    took-more c.as_slice-row-items.result.now c.loop-row.rows.items c.push.new.self.items c.loop-row.row-index c.row-item.result _ c.loop-row-test.true c.row-item.is c.loop-row.invariant
    c.in_ok-copy.ensures c.in_ok-push.ensures.items
