use Rattle.std.proofs.Common.{take}
use Rattle.std.specs.List.{AllZip}
use Rattle.par_phase.proofs.run.outcomes_of.Given as goal

abbrev pub invariant-loop-offset : goal.invariant-loop-offset
invariant-loop-offset g l = AllZip g.J.Job.Yields (take l.offset l.mine) l.outcomes.items
