use Rattle.straight_line.proofs.Filled.{free_more}
use Rattle.straight_line.proofs.filling.free_variables.Goals as goal

pub loop-variable-preserved : goal.loop-variable-preserved
loop-variable-preserved c = free_more c.loop-variable._variable (record { names = c.new.result; parts = c.new-in-loop-variable.result }) c.loop-variable.variables.items c.push.new.self.items c.in_ok-push.ensures.items c.new.ensures c.new-in-loop-variable.ensures c.loop-variable.invariant
