use Rattle.std.proofs.Common.{◌≡◌, map, take}
use Rattle.machine_core.specs.declared.run.Run.{Run}
use Rattle.machine_core.specs.Runs.{run_total}
use Rattle.machine_meet.specs.Splits.{ArePartRuns}
use Rattle.machine_meet.proofs.SplitLemmas.{totals}
use Rattle.machine_meet.proofs.split.split_run.Given as goal

abbrev pub invariant-loop-place : goal.invariant-loop-place
invariant-loop-place g l = record {
  runs : ArePartRuns g.P.Machine.ends_with g.P.Machine.steps_to g.P.Machine.first (take l.place l.meet.parts.now) l.run.word l.runs;
  costs : map (λ (r : Run g.row.P-St.Denot). run_total r) l.runs ≡ take l.place (totals l.rows l.ends);
}
