use Rattle.par_phase.proofs.Cuts.{one_more_job}
use Rattle.par_phase.proofs.run.outcomes_of.Goals as goal

pub loop-offset-preserved : goal.loop-offset-preserved
loop-offset-preserved g c = one_more_job g.J.Job.Yields _ _ _ _ _ _ _ c.loop-offset-test.true c.index-mine-offset.is c.work.ensures c.in_ok-push.ensures.items c.loop-offset.invariant
