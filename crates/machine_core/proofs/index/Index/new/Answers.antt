use Rattle.std.proofs.Common.{[]}
use Rattle.machine_core.proofs.PushLemmas.{replicate-more}
use Rattle.machine_core.proofs.index.Index.new.Goals as goal

pub loop-row-preserved : goal.loop-row-preserved
loop-row-preserved c = replicate-more c.loop-row.list.items c.push.new.self.items c.loop-row._row [] c.new.result c.loop-row.invariant c.new.ensures c.in_ok-push.ensures.items
