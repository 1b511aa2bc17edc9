use Rattle.std.proofs.Common.{[]}
use Rattle.straight_line.proofs.Filled.{filled_more}
use Rattle.straight_line.proofs.ordering.rows.Goals as goal

pub loop-variable-preserved : goal.loop-variable-preserved
loop-variable-preserved c = filled_more c.loop-variable._variable [] c.new.result c.loop-variable.rows.items c.push.new.self.items c.in_ok-push.ensures.items c.new.ensures c.loop-variable.invariant
