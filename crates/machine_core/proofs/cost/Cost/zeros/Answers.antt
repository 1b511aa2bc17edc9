use Rattle.std.proofs.Common.{refl}
use Rattle.machine_core.proofs.PushLemmas.{replicate-more}
use Rattle.machine_core.proofs.cost.Cost.zeros.Goals as goal

pub loop-register-preserved : goal.loop-register-preserved
loop-register-preserved c = replicate-more c.loop-register.cost c.push.new.self c.loop-register._register 0 0 c.loop-register.invariant refl c.in_ok-push.ensures.ok
